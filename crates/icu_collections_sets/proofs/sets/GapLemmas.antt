-- The ranges that an inversion list leaves out hold what it does not.
use Rattle.std.specs.Prelude.{if◌then◌else◌, ◌/◌}
use Rattle.std.proofs.Common.{◌≡◌, ℕ, ◌+◌, ◌%◌, ◌<◌, ◌≤◌, Bool, true, false, not, nat_lt, nat_le, ◌&&◌, List, [], ◌∷◌, length, ◌-◌, Option, Some, None, sym, ap, refl, subst, ◌∙◌, arith, inl, inr}
use Rattle.std.proofs.lemmas.Bool.{cases_lt, false≢true}
use Rattle.std.proofs.lemmas.Bool.Decides.{nat_tests}
use Rattle.icu_collections_sets.specs.CodePoints.{Rises, IsInversionList, is_in, holds, in_ranges, ranges_of}
use Rattle.icu_collections_sets.specs.Gaps.{gaps, start_from, AreGapsFrom, IsLastHeld, AreGapsOf}
use Rattle.icu_collections_sets.proofs.sets.InversionListLemmas.{is_in_past, is_in_before, holds_range, holds_behind, in_ranges_of, Rises_lower}
use Rattle.icu_collections_sets.proofs.edits.SetEditLemmas.{is_in_early}

-- whether a code point is left out, from a start on
abbrev left_out : ℕ → List ℕ → ℕ → Bool
left_out start edges c = nat_le start c && (nat_lt c 1114112 && not (holds edges c))

started : (t : ℕ) → t < 1114112 → start_from t ≡ Some t
started t h = grind (arith, nat_tests)

ended : (t : ℕ) → 1114112 ≤ t → start_from t ≡ None
ended t h = grind (arith, nat_tests)

gaps_behind : (t : ℕ) (edges : List ℕ) (c : ℕ) → (t < 1114112 → in_ranges (gaps (Some t) edges) c ≡ left_out t edges c) → in_ranges (gaps (start_from t) edges) c ≡ left_out t edges c
gaps_behind t edges c ih = elim (cases_lt t 1114112) [
  | inl low ↦ ap (λ s. in_ranges (gaps s edges) c) (started t low) ∙ ih low
  | inr end ↦ ap (λ s. in_ranges (gaps s edges) c) (ended t end) ∙ grind (arith, nat_tests)
]

pub gaps_some : (start : ℕ) (edges : List ℕ) → start < 1114112 → Rises (start + 1) edges → length edges % 2 ≡ 0 → (c : ℕ) → in_ranges (gaps (Some start) edges) c ≡ left_out start edges c
gaps_some start [] h r e c = grind (arith, nat_tests)
gaps_some start (f ∷ []) h r e c = absurd (omega arith)
gaps_some start (f ∷ t ∷ es) h r e c =
    let rise : f < t = omega (arith, r.2.0) in
    let above : start < f = omega (arith, r.0) in
    let rest = gaps_behind t es c (λ low. gaps_some t es low r.2.2 (omega arith) c) in
    elim (cases_lt c f) [
      | inl before ↦ let here = is_in_before false f (t ∷ es) c before in grind (arith, nat_tests, rest, here)
      | inr past ↦ elim (cases_lt c t) [
        | inl within ↦ let here = holds_range f t es c past within in grind (arith, nat_tests, rest, here)
        | inr behind ↦ let here = holds_behind f t es c rise behind in grind (arith, nat_tests, rest, here)
      ]
    ]

-- a list that holds the first code point begins with it
pub first_edge : (xs : List ℕ) → IsInversionList xs → holds xs 0 ≡ true → (t : ℕ) × (es : List ℕ) × (xs ≡ 0 ∷ t ∷ es)
first_edge [] list h = absurd (false≢true h)
first_edge (x ∷ []) list h = absurd (omega (arith, list.even))
first_edge (x ∷ t ∷ es) list h = elim (cases_lt 0 x) [
  | inl above ↦ absurd (false≢true (sym (is_in_before false x (t ∷ es) 0 above) ∙ h))
  | inr first ↦ (t, es, ap (λ y. y ∷ t ∷ es) (omega arith))
]

-- a list that doesn't hold the first code point begins above it
pub Rises_above : (xs : List ℕ) → Rises 0 xs → holds xs 0 ≡ false → Rises (0 + 1) xs
Rises_above [] r h = tt
Rises_above (x ∷ xs) r h = elim (cases_lt 0 x) [
  | inl above ↦ (omega arith, r.1, r.2)
  | inr first ↦
      let in_first : is_in true xs 0 ≡ true = is_in_early true xs 0 (x + 1) (omega arith) r.2 in
      absurd (false≢true (sym h ∙ is_in_past false x xs 0 (omega arith) ∙ in_first))
]

-- what is left out of a list that begins with the first code point, and of one that doesn't
pub left_out_behind : (t : ℕ) (es : List ℕ) → IsInversionList (0 ∷ t ∷ es) → (c : ℕ) → in_ranges (gaps (start_from t) es) c ≡ (nat_lt c 1114112 && not (holds (0 ∷ t ∷ es) c))
left_out_behind t es list c =
    let rise : 0 < t = omega (arith, list.rises.2.0) in
    let rest = gaps_behind t es c (λ low. gaps_some t es low list.rises.2.2 (omega (arith, list.even)) c) in
    elim (cases_lt c t) [
      | inl within ↦ let here = holds_range 0 t es c (omega arith) within in grind (arith, nat_tests, rest, here)
      | inr behind ↦ let here = holds_behind 0 t es c rise behind in grind (arith, nat_tests, rest, here)
    ]

pub left_out_all : (xs : List ℕ) → IsInversionList xs → holds xs 0 ≡ false → (c : ℕ) → in_ranges (gaps (Some 0) xs) c ≡ (nat_lt c 1114112 && not (holds xs c))
left_out_all xs list h c =
    let rest = gaps_some 0 xs (omega arith) (Rises_above xs list.rises h) list.even c in
    grind (arith, nat_tests, rest)

-- the inversion list of the ranges between the ranges of a list
abbrev gap_edges : Option ℕ → List ℕ → List ℕ
gap_edges None edges = []
gap_edges (Some start) [] = start ∷ 0x110000 ∷ []
gap_edges (Some start) (from ∷ []) = start ∷ from ∷ []
gap_edges (Some start) (from ∷ till ∷ edges) = start ∷ from ∷ gap_edges (start_from till) edges

ranges_of_gap_edges : (start : Option ℕ) (edges : List ℕ) → ranges_of (gap_edges start edges) ≡ gaps start edges
ranges_of_gap_edges None edges = refl
ranges_of_gap_edges (Some start) [] = refl
ranges_of_gap_edges (Some start) (from ∷ []) = refl
ranges_of_gap_edges (Some start) (from ∷ till ∷ edges) = ap (λ ranges. (start, from - 1) ∷ ranges) (ranges_of_gap_edges (start_from till) edges)

-- the list is one, from a start on
abbrev IsFrom : ℕ → List ℕ → Type 0
IsFrom least xs = Rises least xs × (length xs % 2 ≡ 0)

gap_edges_behind : (till : ℕ) (edges : List ℕ) → (till < 1114112 → IsFrom till (gap_edges (Some till) edges)) → IsFrom till (gap_edges (start_from till) edges)
gap_edges_behind till edges ih = elim (cases_lt till 1114112) [
  | inl low ↦ subst (λ s. IsFrom till (gap_edges s edges)) (sym (started till low)) (ih low)
  | inr end ↦ subst (λ s. IsFrom till (gap_edges s edges)) (sym (ended till end)) (tt, refl)
]

gap_edges_rise : (start : ℕ) (edges : List ℕ) → start < 1114112 → Rises (start + 1) edges → length edges % 2 ≡ 0 → IsFrom start (gap_edges (Some start) edges)
gap_edges_rise start [] h r e = ((omega arith, omega arith, (omega arith, omega arith, tt)), refl)
gap_edges_rise start (f ∷ []) h r e = absurd (omega arith)
gap_edges_rise start (f ∷ t ∷ es) h r e =
    let rest = gap_edges_behind t es (λ low. gap_edges_rise t es low r.2.2 (omega arith)) in
    ((omega arith, omega arith, (r.0, r.1, Rises_lower (f + 1) t _ r.2.0 rest.0)), omega (arith, rest.1))

-- what is left is the ranges of an inversion list
pub gaps_are : (list : List ℕ) (start : Option ℕ) (edges : List ℕ) → AreGapsFrom start edges
    → ((c : ℕ) → in_ranges (gaps start edges) c ≡ (nat_lt c 1114112 && not (holds list c))) → AreGapsOf list (gaps start edges)
gaps_are list None edges good members = record {
  edges = [];
  is = record { even = refl; rises = tt };
  left_out = members;
  ranges_are = refl;
}
gaps_are list (Some start) edges good members =
    let from = gap_edges_rise start edges good.0 good.1 good.2 in
    let rises = Rises_lower 0 start _ (omega arith) from.0 in
    record {
      edges = gap_edges (Some start) edges;
      is = record { even = from.1; rises = rises };
      left_out = λ c. sym (in_ranges_of 0 _ c rises from.1) ∙ ap (λ ranges. in_ranges ranges c) (ranges_of_gap_edges (Some start) edges) ∙ members c;
      ranges_are = sym (ranges_of_gap_edges (Some start) edges);
    }

pub AreGapsFrom_behind : (t : ℕ) (es : List ℕ) → IsInversionList (0 ∷ t ∷ es) → AreGapsFrom (start_from t) es
AreGapsFrom_behind t es list = elim (cases_lt t 1114112) [
  | inl low ↦ subst (λ s. AreGapsFrom s es) (sym (started t low)) (low, list.rises.2.2, omega (arith, list.even))
  | inr end ↦ subst (λ s. AreGapsFrom s es) (sym (ended t end)) tt
]

nothing_past_end : (till : ℕ) (edges : List ℕ) → 1114112 ≤ till → Rises (till + 1) edges → edges ≡ []
nothing_past_end till [] end r = refl
nothing_past_end till (x ∷ xs) end r = absurd (omega (arith, r.0, r.1))

-- how many ranges a list leaves out from a start on: one more than it has, but where it holds the last code point
length-gaps : (start : ℕ) (edges : List ℕ) → start < 1114112 → Rises (start + 1) edges → length edges % 2 ≡ 0
    → length (gaps (Some start) edges) + (if holds edges 1114111 then 1 else 0) ≡ length edges / 2 + 1
length-gaps start [] h r e = refl
length-gaps start (f ∷ []) h r e = absurd (omega arith)
length-gaps start (f ∷ t ∷ es) h r e =
    let rise : f < t = omega (arith, r.2.0) in
    elim (cases_lt t 1114112) [
      | inl low ↦
          let more = length-gaps t es low r.2.2 (omega arith) in
          rw (started t low, holds_behind f t es 1114111 rise (omega arith)) (omega (arith, more))
      | inr end ↦
          let none = nothing_past_end t es end r.2.2 in
          rw (ended t end, holds_range f t es 1114111 (omega (arith, r.2.1)) (omega arith), none) refl
    ]

-- the same from what an iterator over what is left knows
pub gap_count : (start : Option ℕ) (first : ℕ) (edges : List ℕ) (held : Bool) → start ≡ Some first → AreGapsFrom start edges → IsLastHeld start edges held
    → length (gaps start edges) + (if held then 1 else 0) ≡ length edges / 2 + 1
gap_count start first edges held is good last =
    let from : AreGapsFrom (Some first) edges = subst (λ s. AreGapsFrom s edges) is good in
    let ends : held ≡ holds edges 1114111 = subst (λ s. IsLastHeld s edges held) is last in
    rw (is, ends) (length-gaps first edges from.0 from.1 from.2)
