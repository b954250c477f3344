-- Ranges in the order of their first characters: no two share a character where each ends before the next begins.
use Rattle.std.proofs.Common.{◌≡◌, ⊎_elim, ℕ, zero, suc, ◌+◌, ◌/◌, ◌%◌, ◌^◌, ◌<◌, ◌≤◌, Bool, true, false, cond, not, ◌==◌, ◌||◌, leb, ltb, List, [], ◌∷◌, length, map, get_or, refl, sym, ◌∙◌, ap, subst, arith}
use Rattle.std.specs.Prelude.{IsTrue, All}
use Rattle.std.specs.List.{AllByRecursion, IsDistinct, list_all}
use Rattle.std.specs.List.Sorted.{IsPermutation, IsSorted}
use Rattle.std.specs.declared.cmp.Ordering.{Ordering}
use Rattle.std.specs.declared.cmp.Ordering.TheVariants.{Less, Equal, Greater}
use Rattle.std.specs.Ordering.{is_lt, nat_cmp, ordering_then}
use Rattle.std.proofs.Math.Nat.{eq-or-lt_of_le}
use Rattle.std.proofs.Math.Numerals.{add-one}
use Rattle.std.proofs.Math.Bool.{or-true}
use Rattle.std.proofs.lemmas.Bool.{and_from, and_parts, false≢true, leb-true, lt-ltb, ltb-true}
use Rattle.std.proofs.lemmas.List.Elements.{All-get_or, All-from_get_or}
use Rattle.std.proofs.lemmas.List.Sorted.{All-permutation, IsPermutation-sym}
use Rattle.std.proofs.lemmas.Map.Keys.{IsDistinct-IsPermutation, IsDistinct-from_apart, apart_from_distinct}
use Rattle.icu_normalizer_core.specs.BuiltIn.{is_within}
use Rattle.icu_collator_core.specs.declared.weight_rules.ranges.PrimaryRange.{PrimaryRange}
use Rattle.icu_collator_core.specs.PrimaryRanges.{range_of}
use Rattle.icu_collator_core.specs.Weights.{Range, Weights}
use Rattle.icu_collator_core.specs.WeightRules.{are_disjoint, is_sound_primary, is_sound_range, stays_in_lead}
use Rattle.collate_rules.specs.GivenWeights.{are_all_disjoint}

-- a first and a last character
abbrev Span : Type 0
Span = ℕ × ℕ

abbrev share : Span → Span → Bool
share a b = not (ltb a.1 b.0 || ltb b.1 a.0)

abbrev span_of : Range → Span
span_of r = (r.first, r.last)

abbrev pub span_cmp : Span → Span → Ordering
span_cmp x y = ordering_then (nat_cmp x.0 y.0) (nat_cmp x.1 y.1)

-- each ends before the next begins
abbrev pub AreStepsApart : List Span → Type 0
AreStepsApart spans = (k : ℕ) (d : Span) → k + 1 < length spans → (get_or spans k d).1 < (get_or spans (k + 1) d).0

or_flips : (a b : Bool) → (a || b) ≡ (b || a)
or_flips true b = sym (or-true b)
or_flips false true = refl
or_flips false false = refl

share_flips : (a b : Span) → share a b ≡ share b a
share_flips a b = ap not (or_flips (ltb a.1 b.0) (ltb b.1 a.0))

not_unset : (b : Bool) → not b ≡ false → b ≡ true
not_unset true h = refl
not_unset false h = absurd (false≢true (sym h))

-- ---- Of all pairs, as a list and by indices

all_unshared : (a : Range) (rs : List Range) → list_all (are_disjoint a) rs ≡ true → AllByRecursion (λ b. share (span_of a) b ≡ false) (map span_of rs)
all_unshared a [] h = tt
all_unshared a (r ∷ rs) h =
    let parts = and_parts (are_disjoint a r) (list_all (are_disjoint a) rs) h in
    (ap not parts.0, all_unshared a rs parts.1)

all_disjoint : (a : Range) (rs : List Range) → AllByRecursion (λ b. share (span_of a) b ≡ false) (map span_of rs) → list_all (are_disjoint a) rs ≡ true
all_disjoint a [] h = refl
all_disjoint a (r ∷ rs) h = and_from (are_disjoint a r) (list_all (are_disjoint a) rs) (not_unset (are_disjoint a r) h.0) (all_disjoint a rs h.1)

distinct_spans : (rs : List Range) → are_all_disjoint rs ≡ true → IsDistinct share (map span_of rs)
unfolding IsDistinct
distinct_spans [] h = tt
distinct_spans (r ∷ rs) h =
    let parts = and_parts (list_all (are_disjoint r) rs) (are_all_disjoint rs) h in
    (all_unshared r rs parts.0, distinct_spans rs parts.1)

spans_disjoint : (rs : List Range) → IsDistinct share (map span_of rs) → are_all_disjoint rs ≡ true
unfolding IsDistinct
spans_disjoint [] h = refl
spans_disjoint (r ∷ rs) h = and_from (list_all (are_disjoint r) rs) (are_all_disjoint rs) (all_disjoint r rs h.0) (spans_disjoint rs h.1)

-- ---- In order

module _ (spans : List Span) (within : All (λ (s : Span). s.0 ≤ s.1) spans) where
  module _ (steps : AreStepsApart spans) (d : Span) where
    next : (j : ℕ) → suc j < length spans → (get_or spans j d).1 < (get_or spans (suc j) d).0
    next j lt = subst (λ (m : ℕ). (get_or spans j d).1 < (get_or spans m d).0) (add-one j) (steps j d (omega (arith, lt)))

    before : (i j : ℕ) → i < j → j < length spans → (get_or spans i d).1 < (get_or spans j d).0
    before i zero lt inside = absurd (omega (arith, lt))
    before i (suc j) lt inside =
        ⊎_elim
        (λ same. subst (λ (m : ℕ). (get_or spans m d).1 < (get_or spans (suc j) d).0) (sym same) (next j inside))
        (λ less.
        let here : j < length spans = omega (arith, inside) in
        let a = before i j less here in
        let b = All-get_or (λ (s : Span). s.0 ≤ s.1) spans j d here within in
        let e = next j inside in
        omega (arith, a, b, e))
        (eq-or-lt_of_le (omega (arith, lt)))

  steps_distinct : AreStepsApart spans → IsDistinct share spans
  steps_distinct steps =
      IsDistinct-from_apart share spans (λ i j d lt inside.
      ap (λ (b : Bool). not (b || ltb (get_or spans j d).1 (get_or spans i d).0)) (lt-ltb (get_or spans i d).1 (get_or spans j d).0 (before steps d i j lt inside)))

  -- neighbours that share nothing, where the second doesn't begin before the first
  neighbour : (a b : Span) → is_lt (span_cmp b a) ≡ false → b.0 ≤ b.1 → share a b ≡ false → a.1 < b.0
  neighbour a b order inside apart = by (ltb a.1 b.0) refl
    where
      by : (t : Bool) → ltb a.1 b.0 ≡ t → a.1 < b.0
      by true e = ltb-true a.1 b.0 e
      by false e =
          let low = ltb-true b.1 a.0 (sym (ap (λ (t : Bool). t || ltb b.1 a.0) e) ∙ not_unset (ltb a.1 b.0 || ltb b.1 a.0) apart) in
          let less : ltb b.0 a.0 ≡ true = lt-ltb b.0 a.0 (omega (arith, low, inside)) in
          absurd (false≢true (sym order ∙ ap (λ (t : Bool). is_lt (ordering_then (cond t Less (cond (b.0 == a.0) Equal Greater)) (nat_cmp b.1 a.1))) less))

  distinct_steps : IsSorted span_cmp spans → IsDistinct share spans → AreStepsApart spans
  distinct_steps sorted distinct k d lt =
      neighbour (get_or spans k d) (get_or spans (k + 1) d) (sorted k d (omega arith) lt)
      (All-get_or (λ (s : Span). s.0 ≤ s.1) spans (k + 1) d lt within)
      (apart_from_distinct share spans k (k + 1) d distinct (omega arith) lt)

-- a sound range doesn't
sound_in_order : (weights : Weights) (r : Range) → is_sound_range weights r ≡ true → leb r.first r.last ≡ true
sound_in_order weights r h =
    let jamo = ltb r.last 0x1100 || ltb 0x11ff r.first in
    let sixth = and_parts _ (stays_in_lead weights r) (and_parts _ jamo h).0 in
    let fourth = and_parts _ (r.primary % 256 == 0) (and_parts _ (leb 2 (r.primary / 2 ^ 8 % 256)) sixth.0).0 in
    let third = and_parts _ (is_sound_primary weights r.primary) fourth.0 in
    (and_parts (leb r.first r.last) (is_within 1 127 r.step) third.0).0

pub all_in_order : (weights : Weights) (rs : List Range) → list_all (is_sound_range weights) rs ≡ true → list_all (λ r. leb r.first r.last) rs ≡ true
all_in_order weights [] h = refl
all_in_order weights (r ∷ rs) h =
    let parts = and_parts (is_sound_range weights r) (list_all (is_sound_range weights) rs) h in
    and_from (leb r.first r.last) (list_all (λ s. leb s.first s.last) rs) (sound_in_order weights r parts.0) (all_in_order weights rs parts.1)

-- none ends before it begins
in_order : (rs : List Range) → list_all (λ r. leb r.first r.last) rs ≡ true → All (λ (s : Span). s.0 ≤ s.1) (map span_of rs)
in_order rs h = All-from_get_or (λ (s : Span). s.0 ≤ s.1) (map span_of rs) (0, 0) (λ i lt. at rs i h)
  where
    at : (rs : List Range) (i : ℕ) → list_all (λ r. leb r.first r.last) rs ≡ true → (get_or (map span_of rs) i (0, 0)).0 ≤ (get_or (map span_of rs) i (0, 0)).1
    at [] i h = omega arith
    at (r ∷ rs) zero h = leb-true r.first r.last (and_parts (leb r.first r.last) (list_all (λ s. leb s.first s.last) rs) h).0
    at (r ∷ rs) (suc i) h = at rs i (and_parts (leb r.first r.last) (list_all (λ s. leb s.first s.last) rs) h).1

same_truth : (a b : Bool) → (a ≡ true → b ≡ true) → (b ≡ true → a ≡ true) → a ≡ b
same_truth true b f g = sym (f refl)
same_truth false true f g = g refl
same_truth false false f g = refl

-- what the spans in order tell of the ranges
pub told_by_steps : (rs : List Range) (spans sorted : List Span) (told : Bool) → list_all (λ r. leb r.first r.last) rs ≡ true
    → spans ≡ map span_of rs → IsPermutation spans sorted → IsSorted span_cmp sorted
    → (IsTrue told → AreStepsApart sorted) × (AreStepsApart sorted → IsTrue told) → told ≡ are_all_disjoint rs
told_by_steps rs spans sorted told ordered is moved order tells =
    let within = All-permutation (λ (s : Span). s.0 ≤ s.1) spans sorted moved (subst (All (λ (s : Span). s.0 ≤ s.1)) (sym is) (in_order rs ordered)) in
    same_truth told (are_all_disjoint rs)
    (λ h. spans_disjoint rs (subst (IsDistinct share) is
    (IsDistinct-IsPermutation share share_flips sorted spans (IsPermutation-sym spans sorted moved) (steps_distinct sorted within (tells.0 h)))))
    (λ h. tells.1 (distinct_steps sorted within order
    (IsDistinct-IsPermutation share share_flips spans sorted moved (subst (IsDistinct share) (sym is) (distinct_spans rs h)))))

-- the spans of ranges
pub spans_of_ranges : (ranges : List PrimaryRange) → map (λ (r : PrimaryRange). (r.first, r.last)) ranges ≡ map span_of (map range_of ranges)
spans_of_ranges [] = refl
spans_of_ranges (r ∷ rs) = ap (λ (spans : List Span). (r.first, r.last) ∷ spans) (spans_of_ranges rs)
