-- Tables that are built of maps which keep the rules are accepted.
use Rattle.std.proofs.Common.{◌≡◌, ◌≢◌, ℕ, ◌<◌, ◌⊎◌, inl, inr, ⊎_elim, true, not, ◌==◌, ◌&&◌, List, [], ◌∷◌, length, slice_index, Option, refl, sym, ap, subst, ◌∙◌, arith}
use Rattle.std.specs.List.{All}
use Rattle.std.specs.Char.{IsScalar}
use Rattle.std.specs.Option.{unwrap_or}
use Rattle.std.proofs.lemmas.Bool.{and_from, and_parts, false≢true}
use Rattle.std.proofs.lemmas.List.Elements.{All-head, All-cons, All-nil}
use Rattle.icu_normalizer_core.specs.BuiltMaps.{AreBuiltOf}
use Rattle.icu_normalizer_core.specs.Canonical.{Leaves, IsFree}
use Rattle.icu_normalizer_core.specs.CanonicalFaults.{NoneOffends, OffendsValue, OffendsList, begins_with_mark, AllEnd}
use Rattle.icu_normalizer_core.specs.CanonicalLists.{CanonicalLists, canonical_of, step_in}
use Rattle.icu_normalizer_core.specs.CanonicalMaps.{CanonicalMaps, AreMeaning, KeepCanonicalRules, step_of, given_step}
use Rattle.icu_normalizer_core.specs.CanonicalWords.{is_word, states_list}
use Rattle.icu_normalizer_core.proofs.decomposed_lists.DecomposedLemmas.{left_one}
use Rattle.icu_normalizer_core.proofs.settling.LeftLemmas.{left_alone, left_scalars}
use Rattle.icu_normalizer_core.proofs.accepted.TableMeanings.{class_is, step_is}
use Rattle.icu_normalizer_core.proofs.building.BuiltMapLemmas.{built_meaning, built_left, steps_same, word_inside}
use Rattle.icu_normalizer_core.proofs.building.CharacterWordLemmas.{states_class}
use Rattle.icu_normalizer_core.proofs.building.FullListWordLemmas.{step_in_scalars}

-- a list is empty, or not
cases_empty : (xs : List ℕ) → (xs ≡ []) ⊎ (xs ≢ [])
cases_empty [] = inl refl
cases_empty (x ∷ xs) = inr (λ e. absurd cc)

module _ (maps : CanonicalMaps) (lists : CanonicalLists) (built : AreBuiltOf maps lists) (rules : KeepCanonicalRules maps) where
  means : AreMeaning maps (canonical_of lists)
  means = built_meaning maps lists built

  abbrev full : ℕ → List ℕ
  full = (canonical_of lists).full

  -- the step of a character that isn't built in is the given one
  free_step : (c : ℕ) → IsFree c → step_of maps c ≡ given_step maps.mappings c
  free_step c free = ap (λ (o : Option (List ℕ)). unwrap_or o (given_step maps.mappings c)) free

  pub good_values : NoneOffends (OffendsValue lists)
  good_values c s bad =
      let on : (lists.has_word c && is_word c (lists.word c)) ≡ true = and_from (lists.has_word c) (is_word c (lists.word c)) (built.has_word c s) (built.words c s).form in
      false≢true (sym bad ∙ on)

  full_same : (c : ℕ) (list : List ℕ) → IsScalar c → Leaves (canonical_of lists).step (c ∷ []) list → full c ≡ list
  full_same c list s leaves = left_one (step_in lists.steps) (c ∷ []) (full c) list (built_left maps lists built c s) (subst (λ (f : ℕ → List ℕ). Leaves f (c ∷ []) list) (step_is lists) leaves)

  -- an unmapped character is its own full list
  unmapped_full : (c : ℕ) → IsScalar c → IsFree c → given_step maps.mappings c ≡ [] → full c ≡ c ∷ []
  unmapped_full c s free none =
      full_same c (c ∷ []) s (subst (λ (f : ℕ → List ℕ). Leaves f (c ∷ []) (c ∷ [])) (sym (step_is lists))
      (left_alone (step_in lists.steps) c (steps_same maps lists.steps built.steps c ∙ free_step c free ∙ none)))

  mark_first : (list : List ℕ) → ((d : ℕ) (ds : List ℕ) → list ≡ d ∷ ds → (canonical_of lists).class d ≡ 0) → begins_with_mark (canonical_of lists) list ≡ true → ⊥
  mark_first [] starter bad = false≢true bad
  mark_first (d ∷ ds) starter bad =
      let zero : ((canonical_of lists).class d == 0) ≡ true = rw (starter d ds refl) refl in
      false≢true (sym (ap not zero) ∙ bad)

  -- what mapping steps leave are characters
  full_first : (c d : ℕ) (ds : List ℕ) → IsScalar c → full c ≡ d ∷ ds → IsScalar d
  full_first c d ds s e =
      All-head IsScalar d ds (subst (All IsScalar) e
      (left_scalars (step_in lists.steps) (c ∷ []) (full c) (step_in_scalars lists.steps built.triples) (All-cons IsScalar c [] s (All-nil IsScalar)) (built_left maps lists built c s)))

  short : (c : ℕ) → IsScalar c → IsFree c → 8 < length (full c) → ⊥
  short c s free long =
      ⊎_elim
      (λ none. omega (arith, long, ap length (unmapped_full c s free none)))
      (λ some. let few = (rules.full_lists c (full c) s (free, some) (means.full c s)).0 in omega (arith, long, few))
      (cases_empty (given_step maps.mappings c))

  unmarked : (c : ℕ) → IsScalar c → IsFree c → (states_list (lists.word c) && begins_with_mark (canonical_of lists) (full c)) ≡ true → ⊥
  unmarked c s free bad =
      let both = and_parts (states_list (lists.word c)) (begins_with_mark (canonical_of lists) (full c)) bad in
      ⊎_elim
      (λ none.
      mark_first (full c)
      (λ d ds e.
      let same : c ∷ [] ≡ d ∷ ds = sym (unmapped_full c s free none) ∙ e in
      let at : c ≡ d = ap (λ (xs : List ℕ). slice_index xs 0) same in
      subst (λ (x : ℕ). (canonical_of lists).class x ≡ 0) at (class_is lists c ∙ states_class c (lists.word c) both.0))
      both.1)
      (λ some.
      mark_first (full c)
      (λ d ds e.
      means.class d (full_first c d ds s e) ∙ (rules.full_lists c (full c) s (free, some) (means.full c s)).1 d ds e)
      both.1)
      (cases_empty (given_step maps.mappings c))

  pub good_lists : NoneOffends (OffendsList lists)
  good_lists c s (inl w) = w.1 built.triples
  good_lists c s (inr (free, inl outside)) = false≢true (sym outside ∙ word_inside maps lists built c s)
  good_lists c s (inr (free, inr (inl long))) = short c s free long
  good_lists c s (inr (free, inr (inr (inl marked)))) = unmarked c s free marked
  good_lists c s (inr (free, inr (inr (inr (list, leaves, ne))))) = ne (full_same c list s leaves)

  pub all_end : AllEnd lists
  all_end c s = (full c, subst (λ (f : ℕ → List ℕ). Leaves f (c ∷ []) (full c)) (sym (step_is lists)) (built_left maps lists built c s))
