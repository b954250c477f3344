-- Numbers put in order, each once, and what a search of them says.
use Rattle.std.proofs.Common.{◌≡◌, ◌↔◌, ℕ, ◌<◌, ◌≤◌, IsTrue, is_ok, List, length, get_or, eqb, refl, sym, ◌∙◌, subst, arith, ⊎_elim, nat_cmp, Ok, Err, Result}
use Rattle.std.specs.List.{Contains, dedup}
use Rattle.std.specs.List.Sorted.{IsBinarySearchResult, IsPermutation, IsSorted, IsStrictlyIncreasing}
use Rattle.std.proofs.lemmas.Bool.{cases_lt, false≢true}
use Rattle.std.proofs.lemmas.List.{get_or_default}
use Rattle.std.proofs.lemmas.List.Kept.{AllPairs-from_increasing, Contains-dedup_nat, Contains-from_dedup}
use Rattle.std.proofs.lemmas.List.Sorted.{Contains-permutation, IsPermutation-sym, searched}
use Rattle.std.proofs.lemmas.Map.Keys.{IsStrictlyIncreasing-dedup}
use Rattle.icu_collator_core.specs.WeightLists.{Lists}

module _ (Is : ℕ → Type 0) (items sorted after : List ℕ) (listed : Lists Is items) (moved : IsPermutation items sorted) (up : IsSorted nat_cmp sorted)
    (once : after ≡ dedup eqb sorted) where
  pub listed_once : Lists Is after
  listed_once d = (
    λ w. (listed d).0 (Contains-permutation sorted items d (IsPermutation-sym items sorted moved)
        (Contains-from_dedup eqb sorted d (subst (λ xs. Contains xs d) once w))),
    λ is. subst (λ xs. Contains xs d) (sym once) (Contains-dedup_nat sorted d (Contains-permutation items sorted d moved ((listed d).1 is))),
  )

  pub rising_once : IsStrictlyIncreasing after
  rising_once = subst IsStrictlyIncreasing (sym once) (IsStrictlyIncreasing-dedup sorted up)

-- earlier numbers are no higher
not_higher : (xs : List ℕ) → IsStrictlyIncreasing xs → (i j : ℕ) → i ≤ j → j < length xs → get_or xs i 0 ≤ get_or xs j 0
not_higher xs up i j le lt =
    ⊎_elim (λ (less : i < j). let h = AllPairs-from_increasing xs up i j 0 less lt in omega (arith, h))
    (λ (ge : j ≤ i).
    let same : i ≡ j = omega (arith, le, ge) in
    let itself : get_or xs i 0 ≤ get_or xs i 0 = omega arith in
    subst (λ k. get_or xs i 0 ≤ get_or xs k 0) same itself)
    (cases_lt i j)

-- a search finds what is there, and nothing else
pub search_tells : (xs : List ℕ) (x : ℕ) (r : Result ℕ ℕ) → IsBinarySearchResult (λ y. nat_cmp y x) xs r → IsStrictlyIncreasing xs
    → IsTrue (is_ok r) ↔ Contains xs x
search_tells xs x (Ok i) told up =
    let at = searched xs x (Ok i) told (not_higher xs up) in
    (λ t. (i, at.0, get_or_default xs i x 0 at.0 ∙ at.1), λ w. refl)
search_tells xs x (Err i) told up =
    let at = searched xs x (Err i) told (not_higher xs up) in (
      λ t. absurd (false≢true t),
      λ w.
          let is : get_or xs w.0 0 ≡ x = get_or_default xs w.0 0 x w.1 ∙ w.2 in
          absurd (⊎_elim
          (λ (less : w.0 < i). let h = at.1 w.0 less in omega (arith, h, is))
          (λ (ge : i ≤ w.0). let h = at.2 w.0 ge w.1 in omega (arith, h, is))
          (cases_lt w.0 i)),
    )
