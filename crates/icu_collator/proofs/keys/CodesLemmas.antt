-- Codes of weights: byte lists that order as the weights do, whatever stands after them.
use Rattle.std.proofs.Common.{◌≡◌, ℕ, ◌<◌, ◌≤◌, List, [], ◌∷◌, ◌++◌, refl, sym, ◌∙◌, ap, subst, arith, append_assoc, inl, inr, ◌⊎◌, ⊎_elim}
use Rattle.std.proofs.lemmas.Bool.{cases_lt}
use Rattle.std.specs.Cmp.{nat_cmp_is}
use Rattle.std.specs.Cmp.Lexicographic.{slice_cmp}
use Rattle.std.specs.Ordering.{nat_cmp, ordering_then}
use Rattle.std.specs.declared.cmp.Ordering.{Ordering}
use Rattle.std.specs.declared.cmp.Ordering.TheVariants.{Less, Equal, Greater}
use Rattle.icu_collator.specs.Order.{list_order}
use Rattle.icu_collator.specs.KeyBytes.{codes_from}

-- neither list begins the other, and where they part first the first one has the lower byte
abbrev pub DiffersBelow : List ℕ → List ℕ → Type 0
DiffersBelow [] ys = ⊥
DiffersBelow (x ∷ xs) [] = ⊥
DiffersBelow (x ∷ xs) (y ∷ ys) = (x < y) ⊎ ((x ≡ y) × DiffersBelow xs ys)

-- the first list is below the second in byte order
abbrev pub IsBelow : List ℕ → List ℕ → Type 0
IsBelow [] [] = ⊥
IsBelow [] (y ∷ ys) = Unit {0}
IsBelow (x ∷ xs) [] = ⊥
IsBelow (x ∷ xs) (y ∷ ys) = (x < y) ⊎ ((x ≡ y) × IsBelow xs ys)

-- a list is empty, or begins with a byte up to this one
abbrev pub BeginsUpTo : ℕ → List ℕ → Type 0
BeginsUpTo end [] = Unit {0}
BeginsUpTo end (x ∷ xs) = x ≤ end

-- a list begins with a byte above this one
abbrev pub BeginsAbove : ℕ → List ℕ → Type 0
BeginsAbove end [] = ⊥
BeginsAbove end (x ∷ xs) = end < x

pub less_is : (x y : ℕ) → x < y → nat_cmp x y ≡ Less
less_is x y h = sym (nat_cmp_is x y Less h)

pub greater_is : (x y : ℕ) → x < y → nat_cmp y x ≡ Greater
greater_is x y h = sym (nat_cmp_is y x Greater h)

pub equal_is : (x : ℕ) → nat_cmp x x ≡ Equal
equal_is x = sym (nat_cmp_is x x Equal refl)

pub below_less : (xs ys : List ℕ) → IsBelow xs ys → slice_cmp nat_cmp xs ys ≡ Less
below_less [] [] h = elim h [ ]
below_less [] (y ∷ ys) h = refl
below_less (x ∷ xs) [] h = elim h [ ]
below_less (x ∷ xs) (y ∷ ys) (inl h) = ap (λ o. ordering_then o (slice_cmp nat_cmp xs ys)) (less_is x y h)
below_less (x ∷ xs) (y ∷ ys) (inr (e, h)) = rw e (ap (λ o. ordering_then o (slice_cmp nat_cmp xs ys)) (equal_is y) ∙ below_less xs ys h)

pub below_greater : (xs ys : List ℕ) → IsBelow xs ys → slice_cmp nat_cmp ys xs ≡ Greater
below_greater [] [] h = elim h [ ]
below_greater [] (y ∷ ys) h = refl
below_greater (x ∷ xs) [] h = elim h [ ]
below_greater (x ∷ xs) (y ∷ ys) (inl h) = ap (λ o. ordering_then o (slice_cmp nat_cmp ys xs)) (greater_is x y h)
below_greater (x ∷ xs) (y ∷ ys) (inr (e, h)) = rw e (ap (λ o. ordering_then o (slice_cmp nat_cmp ys xs)) (equal_is y) ∙ below_greater xs ys h)

pub differs_below : (us ts xs ys : List ℕ) → DiffersBelow us ts → IsBelow (us ++ xs) (ts ++ ys)
differs_below [] ts xs ys h = elim h [ ]
differs_below (a ∷ us) [] xs ys h = elim h [ ]
differs_below (a ∷ us) (b ∷ ts) xs ys (inl h) = inl h
differs_below (a ∷ us) (b ∷ ts) xs ys (inr (e, h)) = inr (e, differs_below us ts xs ys h)

pub behind_same : (us xs ys : List ℕ) → slice_cmp nat_cmp (us ++ xs) (us ++ ys) ≡ slice_cmp nat_cmp xs ys
behind_same [] xs ys = refl
behind_same (a ∷ us) xs ys = ap (λ o. ordering_then o (slice_cmp nat_cmp (us ++ xs) (us ++ ys))) (equal_is a) ∙ behind_same us xs ys

pub below_behind : (us xs ys : List ℕ) → IsBelow xs ys → IsBelow (us ++ xs) (us ++ ys)
below_behind [] xs ys h = h
below_behind (a ∷ us) xs ys h = inr (refl, below_behind us xs ys h)

pub end_below : (end : ℕ) (xs ys : List ℕ) → BeginsUpTo end xs → BeginsAbove end ys → IsBelow xs ys
end_below end [] [] low high = elim high [ ]
end_below end (x ∷ xs) [] low high = elim high [ ]
end_below end [] (y ∷ ys) low high = tt
end_below end (x ∷ xs) (y ∷ ys) low high = inl (omega (arith, low, high))

pub begins_with : (end : ℕ) (us xs : List ℕ) → BeginsAbove end us → BeginsAbove end (us ++ xs)
begins_with end [] xs h = elim h [ ]
begins_with end (a ∷ us) xs h = h

-- the answers where a rank is below, and where ranks are the same
pub ranks_less : {W : Type 0} (rank : W → ℕ) (v w : W) (vs ws : List W) → rank v < rank w → list_order rank (v ∷ vs) (w ∷ ws) ≡ Less
ranks_less rank v w vs ws h = ap (λ o. ordering_then o (list_order rank vs ws)) (less_is _ _ h)

pub ranks_greater : {W : Type 0} (rank : W → ℕ) (v w : W) (vs ws : List W) → rank w < rank v → list_order rank (v ∷ vs) (w ∷ ws) ≡ Greater
ranks_greater rank v w vs ws h = ap (λ o. ordering_then o (list_order rank vs ws)) (greater_is _ _ h)

pub ranks_equal : {W : Type 0} (rank : W → ℕ) (w : W) (vs ws : List W) → list_order rank (w ∷ vs) (w ∷ ws) ≡ list_order rank vs ws
ranks_equal rank w vs ws = ap (λ o. ordering_then o (list_order rank vs ws)) (equal_is (rank w))

-- each weight may stand in the state that those before it leave
abbrev pub AllFrom : {S W : Type 0} → (S → W → Type 0) → (S → W → S) → S → List W → Type 0
AllFrom IsOne next s [] = Unit {0}
AllFrom IsOne next s (w ∷ ws) = IsOne s w × AllFrom IsOne next (next s w) ws

-- In each state the codes of two weights that may stand there differ below as the weights do, and each begins above the
-- end of the level.
pub record IsOrderCode {S W : Type 0} (code : S → W → List ℕ) (rank : W → ℕ) (IsOne : S → W → Type 0) (end : ℕ) : Type 0 where
  pub same : (s : S) (v w : W) → IsOne s v → IsOne s w → rank v ≡ rank w → v ≡ w
  pub rises : (s : S) (v w : W) → IsOne s v → IsOne s w → rank v < rank w → DiffersBelow (code s v) (code s w)
  pub begins : (s : S) (w : W) → IsOne s w → BeginsAbove end (code s w)

pub then_equal : (o : Ordering) → ordering_then o Equal ≡ o
then_equal Less = refl
then_equal Equal = refl
then_equal Greater = refl

-- what decides of two numbers
pub three_ways : {P : Type 0} (x y : ℕ) → (x < y → P) → (x ≡ y → P) → (y < x → P) → P
three_ways x y less equal greater = ⊎_elim less (λ h. ⊎_elim greater (λ k. equal (omega (arith, h, k))) (cases_lt y x)) (cases_lt x y)

module _ {S W : Type 0} (code : S → W → List ℕ) (next : S → W → S) (rank : W → ℕ) (IsOne : S → W → Type 0) (end : ℕ) (is : IsOrderCode code rank IsOne end) where
  -- Codes from one state order as the weights, and else as what stands after them.
  pub codes_order :
      (s : S) (vs ws : List W) (xs ys : List ℕ) → AllFrom IsOne next s vs → AllFrom IsOne next s ws → BeginsUpTo end xs → BeginsUpTo end ys
      → slice_cmp nat_cmp (codes_from code next s vs ++ xs) (codes_from code next s ws ++ ys) ≡ ordering_then (list_order rank vs ws) (slice_cmp nat_cmp xs ys)
  unfolding codes_from
  codes_order s [] [] xs ys ones others low_xs low_ys = refl
  codes_order s [] (w ∷ ws) xs ys ones others low_xs low_ys =
      below_less _ _ (end_below end _ _ low_xs (begins_with end _ ys (begins_with end _ _ (is.begins s w others.0))))
  codes_order s (v ∷ vs) [] xs ys ones others low_xs low_ys =
      below_greater _ _ (end_below end _ _ low_ys (begins_with end _ xs (begins_with end _ _ (is.begins s v ones.0))))
  codes_order s (v ∷ vs) (w ∷ ws) xs ys ones others low_xs low_ys =
      three_ways (rank v) (rank w)
      (λ h. rw (append_assoc (code s v) (codes_from code next (next s v) vs) xs, append_assoc (code s w) (codes_from code next (next s w) ws) ys, ranks_less rank v w vs ws h)
      (below_less _ _ (differs_below _ _ _ _ (is.rises s v w ones.0 others.0 h))))
      (λ h. let e : v ≡ w = is.same s v w ones.0 others.0 h in rw (e, append_assoc (code s w) (codes_from code next (next s w) vs) xs, append_assoc (code s w) (codes_from code next (next s w) ws) ys, ranks_equal rank w vs ws)
      (behind_same (code s w) _ _ ∙ codes_order (next s w) vs ws xs ys (subst (λ (u : W). AllFrom IsOne next (next s u) vs) e ones.1) others.1 low_xs low_ys))
      (λ h. rw (append_assoc (code s v) (codes_from code next (next s v) vs) xs, append_assoc (code s w) (codes_from code next (next s w) ws) ys, ranks_greater rank v w vs ws h)
      (below_greater _ _ (differs_below _ _ _ _ (is.rises s w v others.0 ones.0 h))))
