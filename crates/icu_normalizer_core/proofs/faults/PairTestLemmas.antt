-- Bad entries, and characters below U+0300, as the check finds them.
use Rattle.std.proofs.Common.{◌≡◌, ◌≢◌, ℕ, suc, ◌+◌, ◌^◌, ◌<◌, ◌≤◌, ◌⊎◌, inl, inr, ⊎_elim, Bool, true, false, not, ◌==◌, ◌&&◌, ◌||◌, ltb, List, [], ◌∷◌, length, slice_index, Option, Some, None, nat_eq, refl, sym, ap, subst, ◌∙◌, arith}
use Rattle.std.specs.Option.{is_some}
use Rattle.std.specs.Cmp.Lexicographic.{pointwise, same_text, other_text}
use Rattle.std.specs.Char.{IsScalar}
use lib.Utf8.{low_scalar}
use Rattle.std.proofs.lemmas.Bool.{cases_Bool, cases_lt, cases_eq, cond-false, ne_eqb, and_left, and_right, false≢true, or_left, or_right}
use Rattle.std.proofs.lemmas.Bool.Decides.{nat_tests}
use Rattle.std.proofs.lemmas.Option.{none-some}
use Rattle.icu_normalizer_core.specs.BuiltIn.{is_within, built_in_step}
use Rattle.icu_normalizer_core.specs.Canonical.{IsFree}
use Rattle.icu_normalizer_core.specs.CanonicalFaults.{NoneOffends, OffendsList, OffendsPair, IsBadPair}
use Rattle.icu_normalizer_core.specs.CanonicalLists.{CanonicalLists, canonical_of, listed_step, listed_pair, ArePairs, pair_first, pair_second, pair_composed}
use Rattle.icu_normalizer_core.specs.PairTests.{IsBadlyComposed, IsNotOwn, is_bad_pair, least}
use Rattle.icu_normalizer_core.proofs.built.BuiltInFacts.{low_free}
use Rattle.icu_normalizer_core.proofs.faults.OffenderLemmas.{IsLeastIn, least_same, least_single, least_either}
use Rattle.icu_normalizer_core.proofs.decoded.ScalarLemmas.{scalar_below}
use Rattle.icu_normalizer_core.proofs.accepted.TableMeanings.{step_free}

-- ---- Numbers past 2 ^ 21 compose to nothing

unlisted_by : (pairs : List ℕ) (a b : ℕ) → ((i : ℕ) → i < length pairs → pair_first (slice_index pairs i) ≡ a → pair_second (slice_index pairs i) ≡ b → ⊥)
    → listed_pair pairs a b ≡ None
unfolding listed_pair
unlisted_by [] a b none = refl
unlisted_by (pair ∷ rest) a b none =
    let other : ((pair_first pair == a) && (pair_second pair == b)) ≡ false =
    ⊎_elim
    (λ first. and_right (pair_first pair == a) (pair_second pair == b) (ne_eqb (pair_second pair) b (λ second. none 0 (omega arith) first second)))
    (λ ne. and_left (pair_first pair == a) (pair_second pair == b) (ne_eqb (pair_first pair) a ne))
    (cases_eq (pair_first pair) a) in
    cond-false _ _ _ other ∙ unlisted_by rest a b (λ i h e f. none (suc i) (omega arith) e f)

pub pair_outside : (pairs : List ℕ) (a b : ℕ) → ArePairs pairs → (2 ^ 21 ≤ a) ⊎ (2 ^ 21 ≤ b) → listed_pair pairs a b ≡ None
pair_outside pairs a b p (inl high) = unlisted_by pairs a b (λ i h first second. let small = scalar_below (pair_first (slice_index pairs i)) (p.firsts i h) in absurd (omega arith))
pair_outside pairs a b p (inr high) = unlisted_by pairs a b (λ i h first second. absurd (omega arith))

-- ---- Bad entries

unbuilt : (o : Option (List ℕ)) → is_some o ≡ false → o ≡ None
unbuilt None e = refl
unbuilt (Some ds) e = absurd (false≢true (sym e))

built : (o : Option (List ℕ)) → is_some o ≡ true → o ≡ None → ⊥
built None t e = absurd (false≢true t)
built (Some ds) t e = absurd (none-some ds (sym e))

module _ (lists : CanonicalLists) (pair : ℕ) where
  abbrev z : ℕ
  z = pair_composed pair

  abbrev two : List ℕ
  two = pair_first pair ∷ pair_second pair ∷ []

  mapped_free : IsFree z → pointwise nat_eq (listed_step lists.steps z) two ≡ true → (canonical_of lists).step z ≡ two
  mapped_free free t = step_free lists z free ∙ same_text (listed_step lists.steps z) two (sym t)

  other_free : IsFree z → pointwise nat_eq (listed_step lists.steps z) two ≡ false → (canonical_of lists).step z ≢ two
  other_free free f = λ e. other_text (listed_step lists.steps z) two (sym f) (sym (step_free lists z free) ∙ e)

  -- the test tells a bad entry
  pub bad_told : is_bad_pair lists pair ≡ true → IsBadPair lists pair
  unfolding is_bad_pair
  bad_told t =
      ⊎_elim (λ some. inl (built (built_in_step z) some))
      (λ none.
      let free = unbuilt (built_in_step z) none in
      let rest : (not (pointwise nat_eq (listed_step lists.steps z) two) || (ltb (pair_second pair) 0x300 || is_within 0x1161 0x11ff (pair_second pair))) ≡ true =
      ap (λ (b : Bool). b || (not (pointwise nat_eq (listed_step lists.steps z) two) || (ltb (pair_second pair) 0x300 || is_within 0x1161 0x11ff (pair_second pair)))) (sym none) ∙ t in
      ⊎_elim
      (λ same.
      let last : (ltb (pair_second pair) 0x300 || is_within 0x1161 0x11ff (pair_second pair)) ≡ true =
      ap (λ (b : Bool). not b || (ltb (pair_second pair) 0x300 || is_within 0x1161 0x11ff (pair_second pair))) (sym same) ∙ rest in
      ⊎_elim (λ low. inr (inr (inl (grind (arith, nat_tests)))))
      (λ high. inr (inr (inr (ap (λ (b : Bool). b || is_within 0x1161 0x11ff (pair_second pair)) (sym high) ∙ last))))
      (cases_Bool (ltb (pair_second pair) 0x300)))
      (λ other. inr (inl (other_free free other)))
      (cases_Bool (pointwise nat_eq (listed_step lists.steps z) two)))
      (cases_Bool (is_some (built_in_step z)))

  -- and its failing a good one
  past_free : IsFree z → IsBadPair lists pair
      → (not (pointwise nat_eq (listed_step lists.steps z) two) || (ltb (pair_second pair) 0x300 || is_within 0x1161 0x11ff (pair_second pair))) ≡ true
  past_free free (inl built_in) = absurd (built_in free)
  past_free free (inr (inl other)) =
      ⊎_elim (λ t. absurd (other (mapped_free free t))) (λ g. or_left _ _ (ap not g)) (cases_Bool (pointwise nat_eq (listed_step lists.steps z) two))
  past_free free (inr (inr (inl low))) = let t : ltb (pair_second pair) 0x300 ≡ true = grind (arith, nat_tests) in or_right _ _ (or_left _ _ t)
  past_free free (inr (inr (inr within))) = or_right _ _ (or_right _ _ within)

  bad_fails : IsBadPair lists pair → is_bad_pair lists pair ≡ true
  unfolding is_bad_pair
  bad_fails bad =
      ⊎_elim (λ some. or_left _ _ some)
      (λ none. or_right _ _ (past_free (unbuilt (built_in_step z) none) bad))
      (cases_Bool (is_some (built_in_step z)))

  pub good_told : is_bad_pair lists pair ≡ false → IsBadPair lists pair → ⊥
  good_told f bad = false≢true (sym f ∙ bad_fails bad)

-- ---- The least character of a bad entry, entry by entry

-- one of so many entries is bad and composes to the character
abbrev pub IsBadBelow : CanonicalLists → ℕ → ℕ → Type 0
IsBadBelow lists index c = (i : ℕ) × (i < index) × ((pair_composed (slice_index lists.pairs i) ≡ c) × IsBadPair lists (slice_index lists.pairs i))

pub bad_begun : (lists : CanonicalLists) → IsLeastIn (IsBadBelow lists 0) None
bad_begun lists = λ c s w. absurd (let h = w.1 in omega arith)

pub bad_more : (lists : CanonicalLists) (index : ℕ) (found : Option ℕ) → IsScalar (pair_composed (slice_index lists.pairs index))
    → IsBadPair lists (slice_index lists.pairs index) → IsLeastIn (IsBadBelow lists index) found
    → IsLeastIn (IsBadBelow lists (index + 1)) (least found (Some (pair_composed (slice_index lists.pairs index))))
bad_more lists index found s bad before =
    least_same (λ (c : ℕ). IsBadBelow lists index c ⊎ (c ≡ pair_composed (slice_index lists.pairs index))) (IsBadBelow lists (index + 1))
    (λ c t o. ⊎_elim (λ w. (w.0, (let h = w.1 in omega arith), w.2)) (λ e. (index, (omega arith), (sym e, bad))) o)
    (λ c t w. ⊎_elim
    (λ lt. inl (w.0, lt, w.2))
    (λ ge. let at : w.0 ≡ index = let h = w.1 in omega arith in inr (sym w.2.0 ∙ ap (λ (k : ℕ). pair_composed (slice_index lists.pairs k)) at))
    (cases_lt w.0 index))
    _ (least_either (IsBadBelow lists index) (λ (c : ℕ). c ≡ pair_composed (slice_index lists.pairs index)) found (Some (pair_composed (slice_index lists.pairs index)))
    before (least_single (pair_composed (slice_index lists.pairs index)) s))

pub bad_none : (lists : CanonicalLists) (index : ℕ) (found : Option ℕ) → (IsBadPair lists (slice_index lists.pairs index) → ⊥)
    → IsLeastIn (IsBadBelow lists index) found → IsLeastIn (IsBadBelow lists (index + 1)) found
bad_none lists index found good before =
    least_same (IsBadBelow lists index) (IsBadBelow lists (index + 1))
    (λ c t w. (w.0, (let h = w.1 in omega arith), w.2))
    (λ c t w. ⊎_elim
    (λ lt. (w.0, lt, w.2))
    (λ ge. let at : w.0 ≡ index = let h = w.1 in omega arith in absurd (good (subst (λ (k : ℕ). IsBadPair lists (slice_index lists.pairs k)) at w.2.1)))
    (cases_lt w.0 index))
    found before

-- ---- Characters below U+0300

pub low_short : (lists : CanonicalLists) (c : ℕ) → c < 0x300 → NoneOffends (OffendsList lists) → length ((canonical_of lists).full c) ≤ 8
low_short lists c h none =
    ⊎_elim (λ over. absurd (none c (low_scalar c (omega arith)) (inr (low_free c h, inr (inl over))))) (λ short. short) (cases_lt 8 (length ((canonical_of lists).full c)))

-- ---- All causes

pub pair_offends : (lists : CanonicalLists) → ArePairs lists.pairs → (a b : Option ℕ) → IsLeastIn (IsBadlyComposed lists) a → IsLeastIn (IsNotOwn lists) b
    → IsLeastIn (OffendsPair lists) (least a b)
pair_offends lists pairs a b first second =
    least_same (λ (c : ℕ). IsBadlyComposed lists c ⊎ IsNotOwn lists c) (OffendsPair lists)
    (λ c s o. inr o)
    (λ c s o. ⊎_elim (λ w. absurd (w.1 pairs)) (λ w. w) o)
    (least a b) (least_either (IsBadlyComposed lists) (IsNotOwn lists) a b first second)
