-- Edges that are put or taken, and sets that are cut.
use Rattle.std.proofs.Common.{◌≡◌, ℕ, ◌+◌, ◌%◌, ◌<◌, ◌≤◌, Bool, true, false, not, List, [], ◌∷◌, ◌++◌, length, get_or, take, drop, refl, sym, ap, subst, ◌∙◌, arith, inl, inr, nat_le, ◌≢◌, ◌==◌, add-one, drop-cons}
use mathlib.Core.Bool.{beq}
use Rattle.std.proofs.lemmas.List.{take-append-drop, drop_all}
use Rattle.std.proofs.lemmas.Bool.{cases_lt}
use Rattle.std.proofs.lemmas.Bool.Decides.{nat_tests}
use Rattle.icu_collections_sets.specs.CodePoints.{Rises, IsInversionList, is_in, holds}
use Rattle.icu_collections_sets.specs.Operations.{differ, IsIntersection, IsSymmetricDifference}
use Rattle.icu_collections_sets.specs.SetEdits.{IsSetTo, IsToggled, is_within, stretch, IsCountBelow}
use Rattle.icu_collections_sets.proofs.sets.InversionListLemmas.{turned, turned_out, Rises_end, Rises_below, Rises_lower, is_in_count, is_in_past}
use Rattle.icu_collections_sets.proofs.edits.SetEditLemmas.{Below, Below_higher, Below-take, Rises-take, Rises-drop, Rises-append, is_in_past_all, is_in_before_all, edited, edited_from_put, edited_list, edited_holds}

-- what begins the other way round is the other way round
is_in_turned : (now : Bool) (xs : List ℕ) (c : ℕ) → is_in (not now) xs c ≡ not (is_in now xs c)
is_in_turned now [] c = refl
is_in_turned now (x ∷ xs) c = let rest = is_in_turned (not now) xs c in grind (arith, nat_tests, rest)

-- the lists with and without an edge
pub with_edge : (front back : List ℕ) (edge : ℕ) → Below edge front → edge ≤ 0x11_0000 → Rises (edge + 1) back → (c : ℕ) → holds (front ++ edge ∷ back) c ≡ differ (nat_le edge c) (holds (front ++ back) c)
with_edge front back edge below end rises c = elim (cases_lt c edge) [
  | inl before ↦
      let with = is_in_before_all false front (edge ∷ back) c edge before (omega arith, end, rises) in
      let without = is_in_before_all false front back c edge before (Rises_lower edge (edge + 1) back (omega arith) rises) in
      grind (arith, nat_tests)
  | inr past ↦
      let under = Below_higher edge (c + 1) front (omega arith) below in
      let with = is_in_past_all false front (edge ∷ back) c under in
      let without = is_in_past_all false front back c under in
      let next = is_in_past (turned false (length front)) edge back c past in
      let turn = is_in_turned (turned false (length front)) back c in
      grind (arith, nat_tests)
]

-- two edges change what is between them
pub between_edges : (xs ys zs : List ℕ) (from till : ℕ) → from < till → IsToggled from xs ys → IsToggled till ys zs → IsSymmetricDifference (holds xs) (is_within from till) zs
between_edges xs ys zs from till rise first second c =
    let one = first c in
    let two = second c in
    elim (cases_lt c from) [
      | inl before ↦ grind (arith, nat_tests)
      | inr past ↦ elim (cases_lt c till) [
        | inl within ↦ grind (arith, nat_tests)
        | inr behind ↦ grind (arith, nat_tests)
      ]
    ]

-- no set holds a number past the last code point
pub none_past : (xs : List ℕ) (c : ℕ) → IsInversionList xs → 0x11_0000 ≤ c → holds xs c ≡ false
none_past xs c list past =
    is_in_count false xs c (length xs) record {
      within = omega arith;
      before = λ k d inside. omega (arith, Rises_end 0 xs k d list.rises inside);
      behind = λ k d from to. absurd (omega arith);
    } ∙ (turned_out (length xs)).0 ∙ (let even = list.even in grind (arith, nat_tests))

-- an edge that is put
pub edge_put : (xs ys : List ℕ) (p edge : ℕ) → Rises 0 xs → edge ≤ 0x11_0000 → IsCountBelow xs edge p → ((d : ℕ) → p < length xs → get_or xs p d ≢ edge)
    → ys ≡ take p xs ++ edge ∷ drop p xs → Rises 0 ys × IsToggled edge xs ys
edge_put xs ys p edge r end n other same =
    let front = take p xs in
    let back = drop p xs in
    let below : Below edge front = Below-take xs p edge (λ k d h l. n.before k d h) in
    let rises : Rises (edge + 1) back = Rises-drop 0 xs p (edge + 1) r
    (λ k d from to. elim (cases_lt p k) [
      | inl past ↦ omega (arith, n.behind p d (omega arith) (omega arith), Rises_below 0 xs p k d r past to)
      | inr here ↦
          let at : p ≡ k = omega arith in
          subst (λ i. edge + 1 ≤ get_or xs i d) at (omega (arith, n.behind p d (omega arith) (omega arith), other d (omega arith)))
    ]) in (
      subst (λ zs. Rises 0 zs) (sym same) (Rises-append 0 edge front (edge ∷ back) (omega arith) (Rises-take 0 xs p r) below (omega arith, end, rises)),
      λ c. ap (λ zs. holds zs c) same ∙ with_edge front back edge below end rises c ∙ ap (λ zs. differ (nat_le edge c) (holds zs c)) (take-append-drop p xs),
    )

differ_twice : (a b : Bool) → differ a (differ a b) ≡ b
differ_twice true true = refl
differ_twice true false = refl
differ_twice false b = refl

-- an edge that is taken
pub edge_taken : (xs ys : List ℕ) (p edge : ℕ) → Rises 0 xs → edge ≤ 0x11_0000 → IsCountBelow xs edge p → p < length xs → ((d : ℕ) → get_or xs p d ≡ edge)
    → ys ≡ take p xs ++ drop (p + 1) xs → Rises 0 ys × IsToggled edge xs ys
edge_taken xs ys p edge r end n inside is same =
    let front = take p xs in
    let back = drop (p + 1) xs in
    let below : Below edge front = Below-take xs p edge (λ k d h l. n.before k d h) in
    let rises : Rises (edge + 1) back = Rises-drop 0 xs (p + 1) (edge + 1) r (λ k d from to. omega (arith, is d, Rises_below 0 xs p k d r (omega arith) to)) in
    let split : drop p xs ≡ edge ∷ back = rw (add-one, ← is 0) (drop-cons xs p 0 inside) in
    let whole : xs ≡ front ++ edge ∷ back = sym (take-append-drop p xs) ∙ ap (λ zs. front ++ zs) split in (
      subst (λ zs. Rises 0 zs) (sym same) (Rises-append 0 edge front back (omega arith) (Rises-take 0 xs p r) below (Rises_lower edge (edge + 1) back (omega arith) rises)),
      λ c. ap (λ zs. holds zs c) same ∙ sym (differ_twice (nat_le edge c) (holds (front ++ back) c))
          ∙ ap (λ b. differ (nat_le edge c) b) (sym (with_edge front back edge below end rises c)) ∙ ap (λ zs. differ (nat_le edge c) (holds zs c)) (sym whole),
    )

-- all edges are below the number past the end
all_below : (xs : List ℕ) → Rises 0 xs → IsCountBelow xs (0x11_0000 + 1) (length xs)
all_below xs r = record {
  within = omega arith;
  before = λ k d inside. omega (arith, Rises_end 0 xs k d r inside);
  behind = λ k d from to. absurd (omega arith);
}

not_false : (b : Bool) → not (beq b false) ≡ b
not_false true = refl
not_false false = refl

-- a set that is cut
pub set_cut : (xs ys : List ℕ) (p till : ℕ) → IsInversionList xs → till < 0x11_0000 → IsCountBelow xs till p
    → ys ≡ take p xs ++ (stretch (p % 2 == 1) till false 0x11_0000 ++ []) → IsInversionList ys × IsSetTo false (is_within till 0x11_0000) xs ys
set_cut xs ys p till list end n same =
    let q = length xs in
    let back = all_below xs list.rises in
    let even : (q % 2 == 1) ≡ false = (let h = list.even in grind (arith, nat_tests)) in
    let opens : not (beq (p % 2 == 1) false) ≡ (p % 2 == 1) = not_false (p % 2 == 1) in
    let closes : not (beq (q % 2 == 1) false) ≡ false = not_false (q % 2 == 1) ∙ even in
    let put : ys ≡ edited xs till 0x11_0000 p q false =
    edited_from_put xs ys till 0x11_0000 p q false (rw (opens, closes, drop_all q xs (omega arith)) same) in (
      subst IsInversionList (sym put) (edited_list xs till 0x11_0000 p q false list end (omega arith) n back),
      subst (IsSetTo false (is_within till 0x11_0000) xs) (sym put) (edited_holds xs till 0x11_0000 p q false list end (omega arith) n back),
    )

-- what is below a number and what is from another on is taken
pub retained : (xs mid ys : List ℕ) (from till : ℕ) → from < till → IsInversionList ys → IsSetTo false (is_within 0 from) xs mid → IsSetTo false (is_within till 0x11_0000) mid ys
    → IsIntersection (holds xs) (is_within from till) ys
retained xs mid ys from till rise list first second c =
    let one = first c in
    let two = second c in
    elim (cases_lt c from) [
      | inl before ↦ grind (arith, nat_tests)
      | inr past ↦ elim (cases_lt c till) [
        | inl within ↦ grind (arith, nat_tests)
        | inr behind ↦ elim (cases_lt c 0x11_0000) [
          | inl inside ↦ grind (arith, nat_tests)
          | inr outside ↦ let none = none_past ys c list outside in grind (arith, nat_tests)
        ]
      ]
    ]
