-- Lists of characters in the order of their classes.
use Rattle.std.proofs.Common.{◌≡◌, ℕ, ◌<◌, ◌≤◌, ◌⊎◌, inl, inr, ⊎_elim, true, false, not, ltb, ◌==◌, ◌||◌, List, [], ◌∷◌, ◌++◌, refl, sym, ap, subst, ◌∙◌, arith}
use Rattle.std.proofs.lemmas.Bool.{and_parts, and_from, cases_lt, cases_eq}
use Rattle.std.proofs.lemmas.Bool.Decides.{nat_tests}
use Rattle.std.specs.List.{list_all}
use Rattle.icu_normalizer_core.specs.Canonical.{put_in_order, marks_in_order}
use Rattle.icu_normalizer_core.proofs.decomposed_lists.DecomposedLemmas.{put_starter, put_swapped}
use Rattle.icu_normalizer_core.proofs.decomposed_lists.RunLemmas.{order_one}
use Rattle.icu_normalizer.specs.Marks.{stands_to}
use Rattle.icu_normalizer.proofs.cuts.SplitLemmas.{put_stays}

same_from : (m n : ℕ) → (m == n) ≡ true → m ≡ n
same_from m n h = grind (arith, nat_tests)

to_same : (m : ℕ) → (m == m) ≡ true
to_same m = grind (arith, nat_tests)

-- what the test of a character says
from_test : (k before : ℕ) → ((k == 0) || not (ltb k before)) ≡ true → (k ≡ 0) ⊎ (before ≤ k)
from_test k before h =
    ⊎_elim inl (λ some. ⊎_elim (λ lower. absurd (let test : ((k == 0) || not (ltb k before)) ≡ false = grind (arith, nat_tests) in cc)) inr (cases_lt k before)) (cases_eq k 0)

to_test : (k before : ℕ) → (k ≡ 0) ⊎ (before ≤ k) → ((k == 0) || not (ltb k before)) ≡ true
to_test k before (inl zero) = grind (arith, nat_tests)
to_test k before (inr le) = grind (arith, nat_tests)

module _ (class : ℕ → ℕ) where
  -- ---- parts of a list

  pub stands_join : (before middle last : ℕ) (xs ys : List ℕ) → stands_to class before middle xs ≡ true → stands_to class middle last ys ≡ true → stands_to class before last (xs ++ ys) ≡ true
  stands_join before middle last [] ys h g = subst (λ n. stands_to class n last ys ≡ true) (sym (same_from before middle h)) g
  stands_join before middle last (x ∷ xs) ys h g =
      let parts = and_parts ((class x == 0) || not (ltb (class x) before)) (stands_to class (class x) middle xs) h in
      and_from _ _ parts.0 (stands_join (class x) middle last xs ys parts.1 g)

  -- both parts stand, the second after a character of class `middle`
  pub record AreStanding (before last : ℕ) (xs ys : List ℕ) : Type 0 where
    pub middle : ℕ
    pub front : stands_to class before middle xs ≡ true
    pub back : stands_to class middle last ys ≡ true

  pub stands_split : (before last : ℕ) (xs ys : List ℕ) → stands_to class before last (xs ++ ys) ≡ true → AreStanding before last xs ys
  stands_split before last [] ys h = record { middle = before; front = to_same before; back = h }
  stands_split before last (x ∷ xs) ys h =
      let parts = and_parts ((class x == 0) || not (ltb (class x) before)) (stands_to class (class x) last (xs ++ ys)) h in
      let rest = stands_split (class x) last xs ys parts.1 in
      record { middle = rest.middle; front = and_from _ _ parts.0 rest.front; back = rest.back }

  -- the last character's class
  pub stands_last : (before last : ℕ) (xs : List ℕ) (x : ℕ) → stands_to class before last (xs ++ x ∷ []) ≡ true → last ≡ class x
  stands_last before last [] x h = sym (same_from (class x) last (and_parts ((class x == 0) || not (ltb (class x) before)) (class x == last) h).1)
  stands_last before last (y ∷ xs) x h =
      stands_last (class y) last xs x (and_parts ((class y == 0) || not (ltb (class y) before)) (stands_to class (class y) last (xs ++ x ∷ [])) h).1

  -- ---- what stands in order

  pub stands_order : (before last : ℕ) (xs : List ℕ) → stands_to class before last xs ≡ true → marks_in_order class xs ≡ xs
  unfolding marks_in_order
  stands_order before last [] h = refl
  stands_order before last (x ∷ []) h = order_one class x
  stands_order before last (x ∷ y ∷ xs) h =
      let parts = and_parts ((class x == 0) || not (ltb (class x) before)) (stands_to class (class x) last (y ∷ xs)) h in
      let next = and_parts ((class y == 0) || not (ltb (class y) (class x))) (stands_to class (class y) last xs) parts.1 in
      ap (put_in_order class x) (stands_order (class x) last (y ∷ xs) parts.1) ∙ put_stays class x y xs (from_test (class y) (class x) next.0)

  -- what stands after a list that ends in a starter is put in order alone
  pub stands_behind : (before : ℕ) (xs ys : List ℕ) → stands_to class before 0 xs ≡ true → marks_in_order class (xs ++ ys) ≡ xs ++ marks_in_order class ys
  unfolding marks_in_order
  stands_behind before [] ys h = refl
  stands_behind before (x ∷ []) ys h =
      put_starter class x (marks_in_order class ys) (same_from (class x) 0 (and_parts ((class x == 0) || not (ltb (class x) before)) (class x == 0) h).1)
  stands_behind before (x ∷ y ∷ xs) ys h =
      let parts = and_parts ((class x == 0) || not (ltb (class x) before)) (stands_to class (class x) 0 (y ∷ xs)) h in
      let next = and_parts ((class y == 0) || not (ltb (class y) (class x))) (stands_to class (class y) 0 xs) parts.1 in
      ap (put_in_order class x) (stands_behind (class x) (y ∷ xs) ys parts.1) ∙ put_stays class x y (xs ++ marks_in_order class ys) (from_test (class y) (class x) next.0)

  -- ---- one mark more

  -- a mark passes those of higher classes
  mark_passes : (bs : List ℕ) (c : ℕ) (rest : List ℕ) → 0 < class c → list_all (λ d. ltb (class c) (class d)) bs ≡ true
      → marks_in_order class (bs ++ c ∷ rest) ≡ marks_in_order class (c ∷ (bs ++ rest))
  unfolding marks_in_order
  mark_passes [] c rest mark above = refl
  mark_passes (b ∷ bs) c rest mark above =
      let parts = and_parts (ltb (class c) (class b)) (list_all (λ d. ltb (class c) (class d)) bs) above in
      let higher : class c < class b = grind (arith, nat_tests) in
      ap (put_in_order class b) (mark_passes bs c rest mark parts.1)
      ∙ put_swapped class b c (marks_in_order class (bs ++ rest)) (omega arith) mark (λ e. omega arith)

  behind_same : (xs ys zs : List ℕ) → marks_in_order class ys ≡ marks_in_order class zs → marks_in_order class (xs ++ ys) ≡ marks_in_order class (xs ++ zs)
  unfolding marks_in_order
  behind_same [] ys zs e = e
  behind_same (x ∷ xs) ys zs e = ap (put_in_order class x) (behind_same xs ys zs e)

  -- it is put in its place
  pub mark_put : (xs bs : List ℕ) (c : ℕ) (rest : List ℕ) → 0 < class c → list_all (λ d. ltb (class c) (class d)) bs ≡ true
      → marks_in_order class (xs ++ (bs ++ c ∷ rest)) ≡ marks_in_order class (xs ++ (c ∷ (bs ++ rest)))
  mark_put xs bs c rest mark above = behind_same xs (bs ++ c ∷ rest) (c ∷ (bs ++ rest)) (mark_passes bs c rest mark above)

  above_stands : (before last c : ℕ) (b : ℕ) (bs : List ℕ) → list_all (λ d. ltb (class c) (class d)) (b ∷ bs) ≡ true → stands_to class before last (b ∷ bs) ≡ true → stands_to class (class c) last (b ∷ bs) ≡ true
  above_stands before last c b bs above h =
      let parts = and_parts ((class b == 0) || not (ltb (class b) before)) (stands_to class (class b) last bs) h in
      let higher = and_parts (ltb (class c) (class b)) (list_all (λ d. ltb (class c) (class d)) bs) above in
      and_from _ _ (to_test (class b) (class c) (inr (grind (arith, nat_tests, higher.0)))) parts.1

  -- and stands there
  pub mark_stands : (last c : ℕ) (xs : List ℕ) (b : ℕ) (bs : List ℕ) → stands_to class 0 last (xs ++ b ∷ bs) ≡ true → list_all (λ d. ltb (class c) (class d)) (b ∷ bs) ≡ true
      → ((k : ℕ) → stands_to class 0 k xs ≡ true → k ≤ class c) → stands_to class 0 last (xs ++ c ∷ b ∷ bs) ≡ true
  mark_stands last c xs b bs h above behind =
      let parts = stands_split 0 last xs (b ∷ bs) h in
      stands_join 0 parts.middle last xs (c ∷ b ∷ bs) parts.front
      (and_from _ _ (to_test (class c) parts.middle (inr (behind parts.middle parts.front))) (above_stands parts.middle last c b bs above parts.back))

  pub mark_stands_last : (last c : ℕ) (xs : List ℕ) → stands_to class 0 last xs ≡ true → ((k : ℕ) → stands_to class 0 k xs ≡ true → k ≤ class c) → stands_to class 0 (class c) (xs ++ c ∷ []) ≡ true
  mark_stands_last last c xs h behind =
      stands_join 0 last (class c) xs (c ∷ []) h (and_from _ _ (to_test (class c) last (inr (behind last h))) (to_same (class c)))
