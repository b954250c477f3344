-- Tables that are built of maps which keep the rules contradict nothing that is built in, and compose what they map.
use Rattle.std.proofs.Common.{◌≡◌, ℕ, ◌+◌, ◌*◌, ◌/◌, ◌^◌, ◌<◌, ◌≤◌, inl, inr, ⊎_elim, Bool, true, false, cond, not, ◌==◌, ◌&&◌, ◌||◌, List, [], ◌∷◌, length, slice_index, Option, Some, None, refl, sym, ap, subst, ◌∙◌, arith}
use Rattle.std.specs.List.{All, Contains, find, list_any}
use Rattle.std.specs.Char.{IsScalar}
use Rattle.std.specs.Option.{is_some, unwrap_or}
use Rattle.std.specs.Str.{bytes_eq}
use Rattle.std.proofs.lemmas.Bool.{cases_Bool, eqb-true, and_parts, or_parts, false≢true}
use Rattle.std.proofs.lemmas.List.Elements.{All-cons, All-nil, All-contains}
use Rattle.std.proofs.lemmas.Option.{none-some, same_Some}
use Rattle.std.proofs.lemmas.Slice.Eq.{bytes_eq-Decides}
use Rattle.icu_normalizer_core.specs.declared.builder.given.GivenMapping.{GivenMapping}
use Rattle.icu_normalizer_core.specs.BuiltIn.{built_in_step, is_jamo, is_syllable, is_within}
use Rattle.icu_normalizer_core.specs.BuiltMaps.{AreBuiltOf}
use Rattle.icu_normalizer_core.specs.Canonical.{IsFree}
use Rattle.icu_normalizer_core.specs.CanonicalFaults.{NoneOffends, IsAccepted, OffendsBuiltIn, OffendsPair, IsBadPair}
use Rattle.icu_normalizer_core.specs.CanonicalLists.{CanonicalLists, canonical_of, pair_first, pair_second, pair_composed}
use Rattle.icu_normalizer_core.specs.CanonicalMaps.{CanonicalMaps, AreMeaning, KeepCanonicalRules, given_class, given_step, given_pair, composes, first_mapping, mapping_given, is_built_in_mapping}
use Rattle.icu_normalizer_core.proofs.composed.PairLemmas.{listed_pair_of}
use Rattle.icu_normalizer_core.proofs.accepted.TableMeanings.{full_is}
use Rattle.icu_normalizer_core.proofs.building.AcceptedMapLemmas.{good_values, good_lists, all_end}
use Rattle.icu_normalizer_core.proofs.building.BuiltMapLemmas.{built_meaning, word_full, word_inside, built_in_is}
use Rattle.icu_normalizer_core.proofs.building.MapNumberLemmas.{found_all}

-- ---- What is found

pub find_true : {X : Type 0} (p : X → Bool) (xs : List X) (x : X) → find p xs ≡ Some x → p x ≡ true
find_true p [] x e = absurd cc
find_true {X} p (y ∷ ys) x e =
    ⊎_elim
    (λ t.
    let same : Some y ≡ Some x = sym (ap (λ (b : Bool). cond b (Some y) (find p ys)) t) ∙ e in
    let is : y ≡ x = ap (λ (o : Option X). unwrap_or o y) same in
    subst (λ (z : X). p z ≡ true) is t)
    (λ f. find_true p ys x (sym (ap (λ (b : Bool). cond b (Some y) (find p ys)) f) ∙ e))
    (cases_Bool (p y))

any_none : (p : ℕ → Bool) (xs : List ℕ) → list_any p xs ≡ false → All (λ x. p x ≡ false) xs
any_none p [] e = All-nil (λ x. p x ≡ false)
any_none p (x ∷ xs) e = let both = or_parts (p x) (list_any p xs) e in All-cons (λ y. p y ≡ false) x xs both.0 (any_none p xs both.1)

not_some : (o : Option (List ℕ)) → not (is_some o) ≡ true → o ≡ None
not_some None e = refl
not_some (Some ds) e = let off : false ≡ true = e in absurd cc

pub unbuilt : (g : GivenMapping) → built_in_step g.character ≡ None → is_built_in_mapping g ≡ false
unbuilt g e =
    ap (λ (o : Option (List ℕ)). elim o [ Some ds ↦ bytes_eq (mapping_given g) ds && cond (is_syllable g.character) g.is_composed (not g.is_composed) | None ↦ false ]) e

module _ (maps : CanonicalMaps) (lists : CanonicalLists) (built : AreBuiltOf maps lists) (rules : KeepCanonicalRules maps) where
  means : AreMeaning maps (canonical_of lists)
  means = built_meaning maps lists built

  free_step : (c : ℕ) → IsScalar c → IsFree c → (canonical_of lists).step c ≡ given_step maps.mappings c
  free_step c s free = means.step c s ∙ ap (λ (o : Option (List ℕ)). unwrap_or o (given_step maps.mappings c)) free

  letter_free : (c d : ℕ) → IsFree c → Contains (given_step maps.mappings c) d → (is_jamo d || is_syllable d) ≡ true → ⊥
  letter_free c d free has letter = by (find (λ g. g.character == c) maps.mappings) refl
    where
      by : (o : Option GivenMapping) → find (λ g. g.character == c) maps.mappings ≡ o → ⊥
      by None e =
          let none : Contains {X = ℕ} [] d = subst (λ (o : Option GivenMapping). Contains (elim o [ Some g ↦ mapping_given g | None ↦ [] ]) d) e has in
          let h = none.1 in absurd (omega arith)
      by (Some g) e =
          let at : g.character ≡ c = eqb-true g.character c (find_true (λ h. h.character == c) maps.mappings g e) in
          let free_here : built_in_step g.character ≡ None = ap built_in_step at ∙ free in
          let other : is_built_in_mapping g ≡ false = unbuilt g free_here in
          let none = found_all (λ h. is_built_in_mapping h ≡ false → list_any (λ x. is_jamo x || is_syllable x) (h.character ∷ mapping_given h) ≡ false)
          (λ h. h.character == c) maps.mappings g rules.letters e other in
          let in_list : Contains (mapping_given g) d = subst (λ (o : Option GivenMapping). Contains (elim o [ Some h ↦ mapping_given h | None ↦ [] ]) d) e has in
          let all = any_none (λ x. is_jamo x || is_syllable x) (mapping_given g) (or_parts (is_jamo g.character || is_syllable g.character) _ none).1 in
          false≢true (sym (All-contains (λ x. (is_jamo x || is_syllable x) ≡ false) (mapping_given g) d all in_list) ∙ letter)

  pub good_built_ins : NoneOffends (OffendsBuiltIn lists)
  good_built_ins c s (inl (k, e, ne)) = ne (means.class c s ∙ ap (λ (o : Option ℕ). unwrap_or o (given_class maps.classes c)) e)
  good_built_ins c s (inr (inl (ds, e, some, other))) = some (built.steps c ∙ ap (λ (o : Option (List ℕ)). cond (is_some o) [] (given_step maps.mappings c)) e)
  good_built_ins c s (inr (inr (inl (list, e, inl out)))) = false≢true (sym out ∙ word_inside maps lists built c s)
  good_built_ins c s (inr (inr (inl (list, e, inr ne)))) = ne (full_is lists c ∙ word_full maps lists built c s ∙ built_in_is maps lists built c list s e)
  good_built_ins c s (inr (inr (inr (inl (low, ne))))) = ne (means.class c s ∙ rules.low c low)
  good_built_ins c s (inr (inr (inr (inr (inl (low, ne)))))) = ne (means.step c s ∙ rules.unmapped c low)
  good_built_ins c s (inr (inr (inr (inr (inr (free, (d, has, letter))))))) =
      letter_free c d free (subst (λ (xs : List ℕ). Contains xs d) (free_step c s free) has) letter

  pair_good : (a b z : ℕ) → IsScalar z → given_pair maps.mappings a b ≡ Some z
      → IsFree z × ((canonical_of lists).step z ≡ a ∷ b ∷ []) × (0x300 ≤ b) × (is_within 0x1161 0x11ff b ≡ false)
  pair_good a b z s given = by (find (composes a b) maps.mappings) refl
    where
      by : (o : Option GivenMapping) → find (composes a b) maps.mappings ≡ o
          → IsFree z × ((canonical_of lists).step z ≡ a ∷ b ∷ []) × (0x300 ≤ b) × (is_within 0x1161 0x11ff b ≡ false)
      by None e = absurd (none-some z (sym (ap (λ (o : Option GivenMapping). elim o [ Some g ↦ Some g.character | None ↦ None ]) e) ∙ given))
      by (Some g) e =
          let is : g.character ≡ z = same_Some g.character z (sym (ap (λ (o : Option GivenMapping). elim o [ Some h ↦ Some h.character | None ↦ None ]) e) ∙ given) in
          let yes = find_true (composes a b) maps.mappings g e in
          let parts = and_parts (bytes_eq (mapping_given g) (a ∷ b ∷ [])) (not (is_some (built_in_step g.character))) (and_parts g.is_composed _ yes).1 in
          let free : built_in_step z ≡ None = sym (ap built_in_step is) ∙ not_some (built_in_step g.character) parts.1 in
          let list : mapping_given g ≡ a ∷ b ∷ [] = (bytes_eq-Decides (mapping_given g) (a ∷ b ∷ [])).0 parts.0 in
          let once : find (λ h. h.character == z) maps.mappings ≡ Some g =
          subst (λ (k : ℕ). find (λ h. h.character == k) maps.mappings ≡ Some g) is (found_all (λ h. first_mapping maps.mappings h.character ≡ Some h) (composes a b) maps.mappings g rules.one_mapping e) in
          let step : given_step maps.mappings z ≡ a ∷ b ∷ [] = ap (λ (o : Option GivenMapping). elim o [ Some h ↦ mapping_given h | None ↦ [] ]) once ∙ list in
          let second = found_all (λ h. composes a b h ≡ true → (0x300 ≤ b) × (is_within 0x1161 0x11ff b ≡ false)) (composes a b) maps.mappings g (rules.seconds a b) e yes in
          (free, free_step z s free ∙ step, second.0, second.1)

  bad_pair : (i : ℕ) → i < length lists.pairs → IsBadPair lists (slice_index lists.pairs i) → ⊥
  bad_pair i h bad =
      let n : ℕ = slice_index lists.pairs i in
      let below : pair_second n < 2 ^ 21 = omega arith in
      let key : n / 2 ^ 21 ≡ pair_first n * 2 ^ 21 + pair_second n = omega arith in
      let given : given_pair maps.mappings (pair_first n) (pair_second n) ≡ Some (pair_composed n) =
      sym (built.listed_pairs (pair_first n) (pair_second n) below) ∙ listed_pair_of lists.pairs (pair_first n) (pair_second n) i below built.pairs h key in
      let good = pair_good (pair_first n) (pair_second n) (pair_composed n) (built.pairs.composed i h) given in
      ⊎_elim
      (λ fixed. fixed good.0)
      (λ rest. ⊎_elim
      (λ ne. ne good.1)
      (λ seconds. ⊎_elim (λ low. omega (arith, low, good.2)) (λ letter. false≢true (sym good.3 ∙ letter)) seconds)
      rest)
      bad

  pub good_pairs : NoneOffends (OffendsPair lists)
  good_pairs c s (inl w) = w.1 built.pairs
  good_pairs c s (inr (inl (i, h, (at, bad)))) = bad_pair i h bad
  good_pairs c s (inr (inr (low, ne))) = ne (rules.own (canonical_of lists) means c low)

  pub built_accepted : IsAccepted lists
  built_accepted = record {
    values = good_values maps lists built rules;
    full_lists = good_lists maps lists built rules;
    ends = all_end maps lists built rules;
    built_ins = good_built_ins;
    composing = good_pairs;
  }
