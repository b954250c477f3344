-- Compatibility words of maps that keep the rules are accepted, over canonical tables that mean the maps.
use Rattle.std.proofs.Common.{◌≡◌, ◌≢◌, ℕ, ◌<◌, ◌≤◌, ◌==◌, ◌&&◌, ◌||◌, ◌⊎◌, inl, inr, ⊎_elim, Bool, true, false, not, List, [], ◌∷◌, length, flat_map, slice_index, Option, Some, None, refl, sym, ap, subst, ◌∙◌, arith}
use Rattle.std.specs.List.{All, find}
use Rattle.std.specs.Option.{is_some, unwrap_or}
use Rattle.std.specs.Char.{IsScalar}
use lib.Utf8.{low_scalar}
use Rattle.std.proofs.lemmas.Bool.{and_from, cases_lt, eq-eqb, eqb-true, false≢true}
use Rattle.std.proofs.lemmas.List.Elements.{All-contains, All-cons, All-head, All-nil, All-tail}
use Rattle.std.proofs.lemmas.Option.{same_Some}
use Rattle.icu_normalizer_core.specs.declared.builder.given.GivenMapping.{GivenMapping}
use Rattle.icu_normalizer_core.specs.declared.builder.mappings.Mappings.{Mappings}
use Rattle.icu_normalizer_core.specs.BuiltIn.{built_in_compatibility_step, built_in_step, is_built_in}
use Rattle.icu_normalizer_core.specs.Canonical.{Canonical, Leaves, nothing}
use Rattle.icu_normalizer_core.specs.CanonicalFaults.{NoneOffends, begins_with_mark}
use Rattle.icu_normalizer_core.specs.CanonicalLists.{CanonicalLists}
use Rattle.icu_normalizer_core.specs.CanonicalMaps.{CanonicalMaps, AreMeaning, given_step, is_built_in_mapping, mapping_given}
use Rattle.icu_normalizer_core.specs.CanonicalMeaning.{lists_of, meaning}
use Rattle.icu_normalizer_core.specs.CanonicalWords.{full_of_word, is_inside, is_word}
use Rattle.icu_normalizer_core.specs.CompatibilityFaults.{AreAcceptedWords, OffendsFixed, OffendsWord, OffendsWordList}
use Rattle.icu_normalizer_core.specs.CompatibilityMaps.{AllMaps, AreMeaningOf, KeepEachRule, all_steps_of, compatibility_step, else_mapped}
use Rattle.icu_normalizer_core.specs.SettledMappings.{AreFullWords, HasBadLeft, IsSound, steps_in}
use Rattle.icu_normalizer_core.specs.Words.{WordLists, class_in, full_in}
use Rattle.icu_normalizer_core.proofs.built.BuiltInFacts.{built_in_left, free_full}
use Rattle.icu_normalizer_core.proofs.decomposed_lists.DecomposedLemmas.{left_one}
use Rattle.icu_normalizer_core.proofs.compatible.FixedListLemmas.{fixed_built, fixed_low, fixed_step}
use Rattle.icu_normalizer_core.proofs.settling.LeftLemmas.{all_unmapped, left_alone, left_append, left_single, unmapped_left}
use Rattle.icu_normalizer_core.proofs.building.AcceptedMappingLemmas.{find_true, unbuilt}
use Rattle.icu_normalizer_core.proofs.building.AllStepLemmas.{all_first, all_scalars, all_second, cases_step, compatible, left_of_scalars, left_through, scalars_left, unbound}
use Rattle.icu_normalizer_core.proofs.building.AllStepLemmas.{step_fixed as fixed_compatibility}
use Rattle.icu_normalizer_core.proofs.building.CharacterWordLemmas.{states_class}
use Rattle.icu_normalizer_core.proofs.building.FullWordLemmas.{both_marks, both_on, built_in_same}
use Rattle.icu_normalizer_core.proofs.building.MapNumberLemmas.{found_all}
use Rattle.icu_normalizer_core.proofs.building.MappingReadLemmas.{decomposing, full_scalars}

starter_first : (canonical : Canonical) (list : List ℕ) → ((d : ℕ) (ds : List ℕ) → list ≡ d ∷ ds → canonical.class d ≡ 0) → begins_with_mark canonical list ≡ true → ⊥
starter_first canonical [] starter bad = false≢true bad
starter_first canonical (d ∷ ds) starter bad =
    let zero : (canonical.class d == 0) ≡ true = rw (starter d ds refl) refl in
    false≢true (sym (ap not zero) ∙ bad)

list_cases : (xs : List ℕ) → (xs ≡ []) ⊎ (xs ≢ [])
list_cases [] = inl refl
list_cases (x ∷ xs) = inr (λ e. absurd cc)

or_last : (a : Bool) → (a || true) ≡ true
or_last true = refl
or_last false = refl

bound_built_in : (c : ℕ) (ds : List ℕ) → built_in_compatibility_step c ≡ Some ds → is_built_in c ≡ true
bound_built_in c ds e = ap (λ (o : Option (List ℕ)). is_some (built_in_step c) || is_some o) e ∙ or_last (is_some (built_in_step c))

module _ (canonical_maps : CanonicalMaps) (over : Mappings) (sound : IsSound over) (means : AreMeaning canonical_maps (meaning over.tables.now)) where
  abbrev maps : AllMaps
  maps = record { canonical = canonical_maps; compatibilities = over.given.now }

  abbrev base : Canonical
  base = meaning over.tables.now

  abbrev lists : CanonicalLists
  lists = lists_of over.tables.now

  abbrev steps : ℕ → List ℕ
  steps = steps_in over

  abbrev AreCharacters : List ℕ → Type 0
  AreCharacters xs = All IsScalar xs

  alone : (c : ℕ) → IsScalar c → AreCharacters (c ∷ [])
  alone c s = All-cons IsScalar c [] s (All-nil IsScalar)

  pub step_scalars : (c : ℕ) → IsScalar c → AreCharacters (steps c)
  step_scalars = all_scalars base (decomposing over sound) over.given.now sound.given sound.starters

  pub same_step : (c : ℕ) → IsScalar c → steps c ≡ all_steps_of maps c
  same_step c s = ap (λ (xs : List ℕ). else_mapped xs (compatibility_step over.given.now c)) (means.step c s)

  pub to_maps : (c : ℕ) (list : List ℕ) → IsScalar c → Leaves steps (c ∷ []) list → Leaves (all_steps_of maps) (c ∷ []) list
  to_maps c list s h = left_of_scalars steps (all_steps_of maps) (c ∷ []) list step_scalars same_step (alone c s) h

  from_maps : (c : ℕ) (list : List ℕ) → IsScalar c → Leaves (all_steps_of maps) (c ∷ []) list → Leaves steps (c ∷ []) list
  from_maps c list s h =
      left_of_scalars (all_steps_of maps) steps (c ∷ []) list (λ x t. subst AreCharacters (same_step x t) (step_scalars x t)) (λ x t. sym (same_step x t)) (alone c s) h

  unmapped_list : (c : ℕ) (list : List ℕ) → steps c ≡ [] → Leaves steps (c ∷ []) list → list ≡ c ∷ []
  unmapped_list c list none h = left_one steps (c ∷ []) list (c ∷ []) h (left_alone steps c none)

  -- ---- Rules

  module _ (rules : KeepEachRule maps) where
    pub fixed_unmapped : (c : ℕ) (ds : List ℕ) → IsScalar c → built_in_compatibility_step c ≡ Some ds → base.step c ≡ []
    fixed_unmapped c ds s e =
        let free = (compatible c ds e).free in
        means.step c s ∙ ap (λ (o : Option (List ℕ)). unwrap_or o (given_step canonical_maps.mappings c)) free ∙ by free (find (λ g. g.character == c) canonical_maps.mappings) refl
      where
        by : built_in_step c ≡ None → (o : Option GivenMapping) → find (λ g. g.character == c) canonical_maps.mappings ≡ o → given_step canonical_maps.mappings c ≡ []
        by free None found = ap (λ (o : Option GivenMapping). elim o [ Some g ↦ mapping_given g | None ↦ [] ]) found
        by free (Some g) found =
            let at : g.character ≡ c = eqb-true g.character c (find_true (λ h. h.character == c) canonical_maps.mappings g found) in
            let kept = found_all (λ h. is_built_in h.character ≡ true → is_built_in_mapping h ≡ true) (λ h. h.character == c) canonical_maps.mappings g rules.0.built_in_mappings found in
            absurd (false≢true (sym (unbuilt g (ap built_in_step at ∙ free)) ∙ kept (ap is_built_in at ∙ bound_built_in c ds e)))

    fixed_left : (c : ℕ) (ds list : List ℕ) → IsScalar c → built_in_compatibility_step c ≡ Some ds → Leaves steps (c ∷ []) list → list ≡ ds
    fixed_left c ds list s e h =
        let k = compatible c ds e in
        let leads : steps c ≡ k.mark ∷ [] = all_second base.step over.given.now c (fixed_unmapped c ds s e) ∙ fixed_compatibility over.given.now c ds e ∙ k.is in
        let none : steps k.mark ≡ [] = both_marks over sound k.mark 8 k.mark_class (omega arith) k.mark_free in
        left_one steps (c ∷ []) list (k.mark ∷ []) h (left_single steps c k.mark (k.mark ∷ []) leads (left_alone steps k.mark none)) ∙ sym k.is

    -- a full list has at most eight characters, and begins with a starter where the character is mapped
    mapped_list : (c : ℕ) (list : List ℕ) → IsScalar c → is_built_in c ≡ false → steps c ≢ [] → Leaves steps (c ∷ []) list
        → (length list ≤ 8) × ((d : ℕ) (ds : List ℕ) → list ≡ d ∷ ds → base.class d ≡ 0)
    mapped_list c list s free some h =
        let kept = rules.1.full_lists c list s (free, λ none. some (same_step c s ∙ none)) (to_maps c list s h) in (
          kept.0,
          λ d ds e.
              means.class d (All-head IsScalar d ds (subst AreCharacters e (scalars_left steps (c ∷ []) list step_scalars (alone c s) h))) ∙ kept.1 d ds e,
        )

    short_list : (c : ℕ) (list : List ℕ) → IsScalar c → Leaves steps (c ∷ []) list → length list ≤ 8
    short_list c list s h =
        ⊎_elim
        (λ free. ⊎_elim
        (λ other. ⊎_elim
        (λ none. omega (arith, ap length (unmapped_list c list none h)))
        (λ some. (mapped_list c list s (unbound c free other) some h).0)
        (list_cases (steps c)))
        (λ w. omega (arith, ap length (fixed_left c w.0 list s w.1 h), ap length (compatible c w.0 w.1).is))
        (cases_step (built_in_compatibility_step c)))
        (λ w.
        let b = built_in_left steps (both_on over sound) (both_marks over sound) c w.0 w.1 in
        omega (arith, b.short, ap length (left_one steps (c ∷ []) list b.list h b.left)))
        (cases_step (built_in_step c))

    low_unmapped : (c : ℕ) → c < 0xa0 → steps c ≡ []
    low_unmapped c low =
        let s = low_scalar c (omega arith) in
        all_second base.step over.given.now c (means.step c s ∙ rules.0.unmapped c (omega arith)) ∙ rules.1.unmapped c low

  -- steps that don't end, or leave too much, break the rules
  pub bad_left_breaks : HasBadLeft steps → KeepEachRule maps → ⊥
  bad_left_breaks w rules =
      let end = rules.1.ends w.0 w.1 in
      let leaves = from_maps w.0 end.0 w.1 end.1 in
      omega (arith, w.2 end.0 leaves, short_list rules w.0 end.0 w.1 leaves)

  -- ---- Words

  module _ (words : WordLists) (built : AreFullWords steps base.class words) where
    full_left : (c : ℕ) → IsScalar c → Leaves steps (c ∷ []) (full_in words c)
    full_left c s =
        subst (Leaves steps (c ∷ [])) (ap (λ (s16 : List ℕ). full_of_word s16 words.scalars24 c (words.word c)) (sym built.scalars16)) (built.each c s).full

    pub built_means : AreMeaningOf maps words
    built_means = record {
      class = λ c s. (built.each c s).class ∙ means.class c s;
      full = λ c s. to_maps c (full_in words c) s (full_left c s);
    }

    full_characters : (c : ℕ) → IsScalar c → AreCharacters (full_in words c)
    full_characters c s = scalars_left steps (c ∷ []) (full_in words c) step_scalars (alone c s) (full_left c s)

    left_each : (xs : List ℕ) → AreCharacters xs → Leaves steps xs (flat_map (full_in words) xs)
    left_each [] s = nothing
    left_each (x ∷ xs) s =
        left_append steps (x ∷ []) xs (full_in words x) (flat_map (full_in words) xs) (full_left x (All-head IsScalar x xs s)) (left_each xs (All-tail IsScalar x xs s))

    joined : (c : ℕ) → IsScalar c → full_in words c ≡ flat_map (full_in words) (base.full c)
    joined c s =
        left_one steps (c ∷ []) (full_in words c) (flat_map (full_in words) (base.full c)) (full_left c s)
        (left_through base.step steps (c ∷ []) (base.full c) (flat_map (full_in words) (base.full c)) (all_first base.step over.given.now)
        ((decomposing over sound).ends c s) (left_each (base.full c) (full_scalars over sound c s)))

    good_values : NoneOffends (OffendsWord lists words)
    good_values c s bad =
        let formed : (words.has_word c && is_word c (words.word c)) ≡ true = and_from (words.has_word c) (is_word c (words.word c)) (built.has_word c s) (built.each c s).form in
        let on = and_from (words.has_word c && is_word c (words.word c)) (class_in words c == base.class c) formed (eq-eqb (class_in words c) (base.class c) (built.each c s).class) in
        false≢true (sym bad ∙ on)

    item_own : (c d : ℕ) → IsScalar c → IsScalar d → steps d ≡ [] → full_in words d ≡ d ∷ []
    item_own c d s t none = unmapped_list d (full_in words d) none (full_left d t)

    module _ (rules : KeepEachRule maps) where
      good_lists : NoneOffends (OffendsWordList lists words)
      good_lists c s (inl outside) =
          false≢true (sym outside ∙ ap (λ (s16 : List ℕ). is_inside s16 words.scalars24 (words.word c)) built.scalars16 ∙ (built.each c s).inside)
      good_lists c s (inr (inl long)) = omega (arith, long, short_list rules c (full_in words c) s (full_left c s))
      good_lists c s (inr (inr (inl (d, has, other)))) =
          let scalar = All-contains IsScalar (full_in words c) d (full_characters c s) has in
          let none = All-contains (λ x. steps x ≡ []) (full_in words c) d (all_unmapped steps (full_in words c) (unmapped_left steps (c ∷ []) (full_in words c) (full_left c s))) has in
          other (scalar, item_own c d s scalar none)
      good_lists c s (inr (inr (inr (inl (free, states, marked))))) =
          ⊎_elim
          (λ none.
          starter_first base (full_in words c)
          (λ d ds e.
          let at : c ≡ d = ap (λ (xs : List ℕ). slice_index xs 0) (sym (unmapped_list c (full_in words c) none (full_left c s)) ∙ e) in
          subst (λ (x : ℕ). base.class x ≡ 0) at (sym (built.each c s).class ∙ states_class c (words.word c) states))
          marked)
          (λ some. starter_first base (full_in words c) (mapped_list rules c (full_in words c) s (unbound c free.0 free.1) some (full_left c s)).1 marked)
          (list_cases (steps c))
      good_lists c s (inr (inr (inr (inr ne)))) = ne (joined c s)

      good_fixed : NoneOffends (OffendsFixed words)
      good_fixed c s (list, e, ne) =
          ⊎_elim
          (λ free.
          let none = free_full c free in
          ⊎_elim
          (λ low. ne (unmapped_list c (full_in words c) (low_unmapped rules c low) (full_left c s) ∙ same_Some (c ∷ []) list (sym (fixed_low c none low) ∙ e)))
          (λ high. ne (fixed_left rules c list (full_in words c) s (sym (fixed_step c none high) ∙ e) (full_left c s)))
          (cases_lt c 0xa0))
          (λ w.
          let is = built_in_same over sound c w.0 (full_in words c) w.1 (full_left c s) in
          ne (same_Some (full_in words c) list (sym (fixed_built c (full_in words c) is) ∙ e)))
          (cases_step (built_in_step c))

      pub built_words_accepted : AreAcceptedWords lists words
      built_words_accepted = record { values = good_values; full_lists = good_lists; built_ins = good_fixed }
