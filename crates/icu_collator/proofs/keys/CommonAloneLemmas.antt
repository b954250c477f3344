-- A level that isn't written where it has only common weights still orders as its weights do, where levels are as long and
-- no weight is below the common one.
use Rattle.std.proofs.Common.{◌≡◌, ℕ, ◌<◌, ◌≤◌, Bool, true, false, cond, List, [], ◌∷◌, ◌++◌, length, refl, sym, ◌∙◌, ap, arith, inl, inr, ◌⊎◌, ⊎_elim}
use Rattle.std.proofs.lemmas.Bool.{cases_Bool}
use Rattle.std.proofs.lemmas.Bool.Decides.{nat_tests}
use mathlib.Core.Bool.{true≢false}
use Rattle.std.specs.Prelude.{◌==◌, ◌&&◌}
use Rattle.std.specs.Cmp.Lexicographic.{slice_cmp}
use Rattle.std.specs.List.{list_all, AllByRecursion}
use Rattle.std.specs.Ordering.{nat_cmp, ordering_then}
use Rattle.std.specs.declared.cmp.Ordering.TheVariants.{Less, Equal, Greater}
use Rattle.icu_collator.specs.Order.{list_order}
use Rattle.icu_collator.proofs.keys.CodesLemmas.{ranks_less, ranks_greater, equal_is}

pub and_true : (a b : Bool) → (a && b) ≡ true → (a ≡ true) × (b ≡ true)
and_true true b h = (refl, h)
and_true false b h = absurd (true≢false (sym h))

and_rest : (a b : Bool) → a ≡ true → (a && b) ≡ false → b ≡ false
and_rest true b e h = h
and_rest false b e h = absurd (true≢false (sym e))

module _ {W : Type 0} (rank : W → ℕ) (common : ℕ) where
  abbrev pub are_common : List W → Bool
  are_common ws = list_all (λ w. rank w == common) ws

  abbrev pub NoneBelow : List W → Type 0
  NoneBelow ws = AllByRecursion (λ w. common ≤ rank w) ws

  first_common : (w : W) (ws : List W) → are_common (w ∷ ws) ≡ true → (rank w ≡ common) × (are_common ws ≡ true)
  first_common w ws h =
      let both = and_true (rank w == common) (are_common ws) h in
      let is : (rank w == common) ≡ true = both.0 in
      (grind (arith, nat_tests), both.1)

  same_ranks : (v w : W) (vs ws : List W) → rank v ≡ rank w → list_order rank (v ∷ vs) (w ∷ ws) ≡ list_order rank vs ws
  same_ranks v w vs ws e = ap (λ r. ordering_then (nat_cmp r (rank w)) (list_order rank vs ws)) e ∙ ap (λ o. ordering_then o (list_order rank vs ws)) (equal_is (rank w))

  common_equal : (vs ws : List W) → length vs ≡ length ws → are_common vs ≡ true → are_common ws ≡ true → list_order rank vs ws ≡ Equal
  common_equal [] [] long h k = refl
  common_equal [] (w ∷ ws) long h k = let never : ⊥ = omega (arith, long) in absurd never
  common_equal (v ∷ vs) [] long h k = let never : ⊥ = omega (arith, long) in absurd never
  common_equal (v ∷ vs) (w ∷ ws) long h k =
      let a = first_common v vs h in
      let b = first_common w ws k in
      same_ranks v w vs ws (a.0 ∙ sym b.0) ∙ common_equal vs ws (omega (arith, long)) a.1 b.1

  -- the first weight of a list that has another than the common one
  first_other : (w : W) (ws : List W) → are_common (w ∷ ws) ≡ false → common ≤ rank w → (common < rank w) ⊎ ((rank w ≡ common) × (are_common ws ≡ false))
  first_other w ws h low =
      ⊎_elim (λ is. let e : (rank w == common) ≡ true = is in inr (grind (arith, nat_tests), and_rest _ (are_common ws) e h))
      (λ not. let e : (rank w == common) ≡ false = not in inl (grind (arith, nat_tests)))
      (cases_Bool (rank w == common))

  common_below : (vs ws : List W) → length vs ≡ length ws → NoneBelow ws → are_common vs ≡ true → are_common ws ≡ false → list_order rank vs ws ≡ Less
  common_below [] [] long low h k = absurd (true≢false k)
  common_below [] (w ∷ ws) long low h k = let never : ⊥ = omega (arith, long) in absurd never
  common_below (v ∷ vs) [] long low h k = let never : ⊥ = omega (arith, long) in absurd never
  common_below (v ∷ vs) (w ∷ ws) long low h k =
      let a = first_common v vs h in
      ⊎_elim
      (λ b. ranks_less rank v w vs ws (omega (arith, a.0, b)))
      (λ b. same_ranks v w vs ws (a.0 ∙ sym b.0) ∙ common_below vs ws (omega (arith, long)) low.1 a.1 b.1)
      (first_other w ws k low.0)

  common_above : (vs ws : List W) → length vs ≡ length ws → NoneBelow vs → are_common vs ≡ false → are_common ws ≡ true → list_order rank vs ws ≡ Greater
  common_above [] [] long low h k = absurd (true≢false h)
  common_above [] (w ∷ ws) long low h k = let never : ⊥ = omega (arith, long) in absurd never
  common_above (v ∷ vs) [] long low h k = let never : ⊥ = omega (arith, long) in absurd never
  common_above (v ∷ vs) (w ∷ ws) long low h k =
      let a = first_common w ws k in
      ⊎_elim
      (λ b. ranks_greater rank v w vs ws (omega (arith, a.0, b)))
      (λ b. same_ranks v w vs ws (b.0 ∙ sym a.0) ∙ common_above vs ws (omega (arith, long)) low.1 b.1 a.1)
      (first_other v vs h low.0)

  none_below_other : (ws : List W) → are_common ws ≡ false → list_order rank [] ws ≡ Less
  none_below_other [] h = absurd (true≢false h)
  none_below_other (w ∷ ws) h = refl

  other_above_none : (ws : List W) → are_common ws ≡ false → list_order rank ws [] ≡ Greater
  other_above_none [] h = absurd (true≢false h)
  other_above_none (w ∷ ws) h = refl

  -- a level written by f, but as nothing where it has only common weights
  pub alone_order :
      (f : List W → List ℕ) (vs ws : List W) (xs ys : List ℕ) (b c : Bool) → are_common vs ≡ b → are_common ws ≡ c
      → length vs ≡ length ws → NoneBelow vs → NoneBelow ws → f [] ≡ []
      → (slice_cmp nat_cmp (f vs ++ xs) (f ws ++ ys) ≡ ordering_then (list_order rank vs ws) (slice_cmp nat_cmp xs ys))
      → (slice_cmp nat_cmp (f [] ++ xs) (f ws ++ ys) ≡ ordering_then (list_order rank [] ws) (slice_cmp nat_cmp xs ys))
      → (slice_cmp nat_cmp (f vs ++ xs) (f [] ++ ys) ≡ ordering_then (list_order rank vs []) (slice_cmp nat_cmp xs ys))
      → slice_cmp nat_cmp (cond b [] (f vs) ++ xs) (cond c [] (f ws) ++ ys) ≡ ordering_then (list_order rank vs ws) (slice_cmp nat_cmp xs ys)
  alone_order f vs ws xs ys true true h k long low_v low_w none both first second = rw (common_equal vs ws long h k) refl
  alone_order f vs ws xs ys true false h k long low_v low_w none both first second =
      rw (common_below vs ws long low_w h k) (ap (λ t. slice_cmp nat_cmp (t ++ xs) (f ws ++ ys)) (sym none) ∙ first ∙ ap (λ o. ordering_then o (slice_cmp nat_cmp xs ys)) (none_below_other ws k))
  alone_order f vs ws xs ys false true h k long low_v low_w none both first second =
      rw (common_above vs ws long low_v h k) (ap (λ t. slice_cmp nat_cmp (f vs ++ xs) (t ++ ys)) (sym none) ∙ second ∙ ap (λ o. ordering_then o (slice_cmp nat_cmp xs ys)) (other_above_none vs h))
  alone_order f vs ws xs ys false false h k long low_v low_w none both first second = both
