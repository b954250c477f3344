-- laws of elements in order: sorted, with the same elements, stable; and one more element at the end
use Rattle.std.proofs.Common.{◌≡◌, ℕ, zero, suc, ◌+◌, ◌<◌, Bool, true, false, cond, not, ◌&&◌, List, [], ◌∷◌, ◌++◌, length, get_or, refl, sym, ap, ◌∙◌, subst, arith, add-one, true≢false, ◌≢◌}
use Rattle.std.specs.List.{All, AllPairs, filter}
use Rattle.std.specs.List.Sorted.{IsPermutation, IsSorted, IsStable, ties}
use Rattle.std.specs.Cmp.{IsTotalOrder}
use Rattle.std.specs.Ordering.{is_lt, is_gt, ordering_reverse}
use Rattle.std.specs.declared.cmp.Ordering.{Ordering}
use Rattle.std.specs.declared.cmp.Ordering.TheVariants.{Less, Equal, Greater}
use Rattle.std.proofs.lemmas.Cmp.{upto}
use Rattle.std.proofs.lemmas.List.Sorted.{All-permutation, IsPermutation-refl, IsPermutation-cons, IsPermutation-trans, IsPermutation-sym, IsPermutation-middle}
use Rattle.std.proofs.lemmas.List.Elements.{All-nil, All-cons, All-head, All-tail, All-weaker}
use Rattle.std.proofs.lemmas.List.Kept.{AllPairs-cons}
use Rattle.collate_lists.specs.Insertion.{IsInserted}
use Rattle.collate_lists.specs.Names.{is_greater, placed_before, in_order}

-- an element put after all of these that aren't above it
abbrev pub placed_after : {A : Type 0} → (A → A → Ordering) → A → List A → List A
placed_after R name [] = name ∷ []
placed_after R name (other ∷ others) =
    let further = other ∷ placed_after R name others
    in cond (is_greater (R other name)) (name ∷ other ∷ others) further

pub is_gt_same : (r : Ordering) → is_gt r ≡ is_greater r
is_gt_same Less = refl
is_gt_same Equal = refl
is_gt_same Greater = refl

pub greater_is : (r : Ordering) → is_greater r ≡ true → r ≡ Greater
greater_is Less h = cc
greater_is Equal h = cc
greater_is Greater h = refl

less_reversed : (r : Ordering) → is_lt (ordering_reverse r) ≡ is_greater r
less_reversed Less = refl
less_reversed Equal = refl
less_reversed Greater = refl

neither_less : (r : Ordering) → not (is_lt r) && not (is_lt (ordering_reverse r)) ≡ true → r ≡ Equal
neither_less Less h = cc
neither_less Equal h = refl
neither_less Greater h = cc

module _ {A : Type 0} (R : A → A → Ordering) where
  -- ---- as many as arrived

  pub length-placed_before : (x : A) (ys : List A) → length (placed_before R x ys) ≡ length ys + 1
  unfolding placed_before
  length-placed_before x [] = refl
  length-placed_before x (y ∷ ys) = grind (arith, length-placed_before x ys)

  pub length-in_order : (xs : List A) → length (in_order R xs) ≡ length xs
  unfolding in_order
  length-in_order [] = refl
  length-in_order (x ∷ xs) = grind (arith, length-placed_before x (in_order R xs), length-in_order xs)

  -- ---- the same elements

  pub IsPermutation-placed_before : (x : A) (ys : List A) → IsPermutation (x ∷ ys) (placed_before R x ys)
  unfolding placed_before
  IsPermutation-placed_before x [] = IsPermutation-refl (x ∷ [])
  IsPermutation-placed_before x (y ∷ ys) =
      let back : IsPermutation (y ∷ x ∷ ys) (x ∷ y ∷ ys) = IsPermutation-middle (y ∷ []) x ys in
      let turn : IsPermutation (x ∷ y ∷ ys) (y ∷ x ∷ ys) = IsPermutation-sym (y ∷ x ∷ ys) (x ∷ y ∷ ys) back in
      let later : IsPermutation (y ∷ x ∷ ys) (y ∷ placed_before R x ys) = IsPermutation-cons y (x ∷ ys) (placed_before R x ys) (IsPermutation-placed_before x ys) in
      elim (is_greater (R x y)) as (λ b. IsPermutation (x ∷ y ∷ ys) (cond b (y ∷ placed_before R x ys) (x ∷ y ∷ ys)))
      [ true ↦ IsPermutation-trans (x ∷ y ∷ ys) (y ∷ x ∷ ys) (y ∷ placed_before R x ys) turn later | false ↦ IsPermutation-refl (x ∷ y ∷ ys) ]

  pub in_order_is_permutation : (xs : List A) → IsPermutation xs (in_order R xs)
  unfolding in_order
  in_order_is_permutation [] = IsPermutation-refl []
  in_order_is_permutation (x ∷ xs) =
      IsPermutation-trans (x ∷ xs) (x ∷ in_order R xs) (placed_before R x (in_order R xs))
      (IsPermutation-cons x xs (in_order R xs) (in_order_is_permutation xs)) (IsPermutation-placed_before x (in_order R xs))

  -- ---- the same pairs

  placed_before_pairs : (P : A → A → Type 0) → ((x y : A) → P x y → P y x) → (x : A) (ys : List A) → All (P x) ys → AllPairs P ys → AllPairs P (placed_before R x ys)
  unfolding placed_before
  placed_before_pairs P turns x [] h r = AllPairs-cons P x [] h r
  placed_before_pairs P turns x (y ∷ ys) h r =
      let head : All (P y) ys = λ k d l. r 0 (suc k) d (omega arith) (omega arith) in
      let tail : AllPairs P ys = λ i j d l m. r (suc i) (suc j) d (omega arith) (omega arith) in
      let later : All (P y) (placed_before R x ys) =
      All-permutation (P y) (x ∷ ys) (placed_before R x ys) (IsPermutation-placed_before x ys) (All-cons (P y) x ys (turns x y (All-head (P x) y ys h)) head) in
      elim (is_greater (R x y)) as (λ b. AllPairs P (cond b (y ∷ placed_before R x ys) (x ∷ y ∷ ys))) [
        | true ↦ AllPairs-cons P y (placed_before R x ys) later (placed_before_pairs P turns x ys (All-tail (P x) y ys h) tail)
        | false ↦ AllPairs-cons P x (y ∷ ys) h r
      ]

  -- what holds both ways of each two that arrived, as that they differ, holds of each two in order
  pub in_order_pairs : (P : A → A → Type 0) → ((x y : A) → P x y → P y x) → (xs : List A) → AllPairs P xs → AllPairs P (in_order R xs)
  unfolding in_order
  in_order_pairs P turns [] h = h
  in_order_pairs P turns (x ∷ xs) h =
      let head : All (P x) xs = λ k d l. h 0 (suc k) d (omega arith) (omega arith) in
      let tail : AllPairs P xs = λ i j d l m. h (suc i) (suc j) d (omega arith) (omega arith) in
      placed_before_pairs P turns x (in_order R xs) (All-permutation (P x) xs (in_order R xs) (in_order_is_permutation xs) head) (in_order_pairs P turns xs tail)

module _ {A : Type 0} (R : A → A → Ordering) (o : IsTotalOrder R) where
  pub turned : (x y : A) (r : Ordering) → R y x ≡ r → R x y ≡ ordering_reverse r
  turned x y r h = o.antisymm x y ∙ ap ordering_reverse h

  pub above_chain : (x y z : A) → is_greater (R x y) ≡ true → is_greater (R y z) ≡ true → is_greater (R x z) ≡ true
  above_chain x y z h k =
      let low : R z y ≡ Less = turned z y Greater (greater_is (R y z) k) in
      let high : R y x ≡ Less = turned y x Greater (greater_is (R x y) h) in
      ap is_greater (turned x z Less (o.trans z y x low high))

  pub upto_chain : (x y z : A) → is_greater (R x y) ≡ false → is_greater (R y z) ≡ false → is_greater (R x z) ≡ false
  upto_chain x y z h k =
      sym (is_gt_same (R x z)) ∙ upto o x y z (is_gt_same (R x y) ∙ h) (is_gt_same (R y z) ∙ k)

  -- the newest element goes after, each older one before
  pub after_before : (x n : A) (ys : List A) → placed_before R x (placed_after R n ys) ≡ placed_after R n (placed_before R x ys)
  unfolding placed_before
  after_before x n [] = refl
  after_before x n (y ∷ ys) = grind (arith, above_chain x y n, upto_chain x y n, after_before x n ys)

  -- one more element at the end of the arrivals comes after all that aren't above it
  pub in_order_more : (xs : List A) (n : A) → in_order R (xs ++ n ∷ []) ≡ placed_after R n (in_order R xs)
  unfolding in_order placed_before
  in_order_more [] n = refl
  in_order_more (x ∷ xs) n = ap (placed_before R x) (in_order_more xs n) ∙ after_before x n (in_order R xs)

  -- ---- sorted

  -- x isn't above the first of these
  abbrev pub starts_above : A → List A → Type 0
  starts_above x [] = Unit {0}
  starts_above x (y ∷ ys) = is_greater (R x y) ≡ false

  -- none of these is above the next
  abbrev pub Rises : List A → Type 0
  Rises [] = Unit {0}
  Rises (x ∷ xs) = starts_above x xs × Rises xs

  not_both : (x y : A) → is_greater (R x y) ≡ true → is_greater (R y x) ≡ false
  not_both x y h = ap is_greater (turned y x Greater (greater_is (R x y) h))

  starts_above-placed_before : (z x : A) (ys : List A) → is_greater (R z x) ≡ false → starts_above z ys → starts_above z (placed_before R x ys)
  unfolding placed_before
  starts_above-placed_before z x [] h k = h
  starts_above-placed_before z x (y ∷ ys) h k = elim (is_greater (R x y)) as (λ b. starts_above z (cond b (y ∷ placed_before R x ys) (x ∷ y ∷ ys))) [ true ↦ k | false ↦ h ]

  Rises-placed_before : (x : A) (ys : List A) → Rises ys → Rises (placed_before R x ys)
  unfolding placed_before
  Rises-placed_before x [] r = (tt, tt)
  Rises-placed_before x (y ∷ ys) r =
      let step : (b : Bool) → is_greater (R x y) ≡ b → Rises (cond b (y ∷ placed_before R x ys) (x ∷ y ∷ ys)) =
      λ b. elim b as (λ b. is_greater (R x y) ≡ b → Rises (cond b (y ∷ placed_before R x ys) (x ∷ y ∷ ys)))
      [ true ↦ λ e. (starts_above-placed_before y x ys (not_both x y e) r.0, Rises-placed_before x ys r.1) | false ↦ λ e. (e, r) ]
      in step (is_greater (R x y)) refl

  pub Rises-in_order : (xs : List A) → Rises (in_order R xs)
  unfolding in_order
  Rises-in_order [] = tt
  Rises-in_order (x ∷ xs) = Rises-placed_before x (in_order R xs) (Rises-in_order xs)

  is_lt_turned : (x y : A) → is_lt (R y x) ≡ is_greater (R x y)
  is_lt_turned x y = ap is_lt (o.antisymm y x) ∙ less_reversed (R x y)

  rises_at : (xs : List A) → Rises xs → (k : ℕ) (d : A) → suc k < length xs → is_lt (R (get_or xs (suc k) d) (get_or xs k d)) ≡ false
  rises_at [] r k d h = absurd (omega arith)
  rises_at (x ∷ []) r k d h = absurd (omega arith)
  rises_at (x ∷ y ∷ ys) r zero d h = is_lt_turned x y ∙ r.0
  rises_at (x ∷ y ∷ ys) r (suc k) d h = rises_at (y ∷ ys) r.1 k d (omega arith)

  sorted_from_Rises : (xs : List A) → Rises xs → IsSorted R xs
  sorted_from_Rises xs r k d l h = rw add-one (rises_at xs r k d (omega arith))

  pub in_order_is_sorted : (xs : List A) → IsSorted R (in_order R xs)
  in_order_is_sorted xs = sorted_from_Rises (in_order R xs) (Rises-in_order xs)

  -- ---- stable

  abbrev ties_with : A → A → Bool
  ties_with x = ties (λ a b. is_lt (R a b)) x

  tied_is : (x y : A) → ties_with x y ≡ true → R x y ≡ Equal
  tied_is x y h = neither_less (R x y) (rw (← o.antisymm y x) h)

  tied_level : (x y z : A) → ties_with x y ≡ true → ties_with x z ≡ true → is_greater (R y z) ≡ false
  tied_level x y z h k = ap is_greater (sym (o.congr x y z (tied_is x y h)) ∙ tied_is x z k)

  filter-placed_before : (x y : A) (zs : List A) → filter (ties_with x) (placed_before R y zs) ≡ filter (ties_with x) (y ∷ zs)
  unfolding placed_before
  filter-placed_before x y [] = refl
  filter-placed_before x y (z ∷ zs) = grind (arith, tied_level x y z, filter-placed_before x y zs)

  pub in_order_is_stable : (xs : List A) → IsStable R xs (in_order R xs)
  unfolding in_order
  in_order_is_stable [] x = refl
  in_order_is_stable (y ∷ ys) x = filter-placed_before x y (in_order R ys) ∙ ap (λ zs. cond (ties_with x y) (y ∷ zs) zs) (in_order_is_stable ys x)

  -- ---- where the newest element stands

  abbrev NotBelowAll : A → List A → Type 0
  NotBelowAll y zs = All (λ z. is_greater (R y z) ≡ false) zs

  -- the first of elements in order isn't above any other
  pub first_upto : (y : A) (zs : List A) → starts_above y zs → Rises zs → NotBelowAll y zs
  first_upto y [] h r = All-nil (λ z. is_greater (R y z) ≡ false)
  first_upto y (z ∷ zs) h r =
      All-cons (λ w. is_greater (R y w) ≡ false) z zs h
      (All-weaker (λ w. is_greater (R z w) ≡ false) (λ w. is_greater (R y w) ≡ false) (λ w k. upto_chain y z w h k) zs (first_upto z zs r.0 r.1))

  -- above an element, if above one that isn't above this
  above_later : (y z n : A) → is_greater (R y n) ≡ true → is_greater (R y z) ≡ false → is_greater (R z n) ≡ true
  above_later y z n h k =
      elim (is_greater (R z n)) as (λ b. is_greater (R z n) ≡ b → b ≡ true) [ true ↦ λ e. refl | false ↦ λ e. absurd (true≢false (sym h ∙ upto_chain y z n k e)) ] refl

  is_inserted : (n : A) (ys : List A) → Rises ys → IsInserted R n ys (placed_after R n ys)
  is_inserted n [] r = ([], [], refl, refl, All-nil (λ z. R z n ≢ Greater), All-nil (λ z. R z n ≡ Greater))
  is_inserted n (y ∷ ys) r =
      let later : IsInserted R n ys (placed_after R n ys) = is_inserted n ys r.1 in
      elim (is_greater (R y n)) as (λ b. is_greater (R y n) ≡ b → IsInserted R n (y ∷ ys) (cond b (n ∷ y ∷ ys) (y ∷ placed_after R n ys))) [
        | true ↦ λ h. (
          [],
          y ∷ ys,
          refl,
          refl,
          All-nil (λ z. R z n ≢ Greater),
          All-cons (λ z. R z n ≡ Greater) y ys (greater_is (R y n) h)
              (All-weaker (λ z. is_greater (R y z) ≡ false) (λ z. R z n ≡ Greater) (λ z k. greater_is (R z n) (above_later y z n h k)) ys (first_upto y ys r.0 r.1)),
        )
        | false ↦ λ h. (
          y ∷ later.0,
          later.1,
          ap (λ zs. y ∷ zs) later.2,
          ap (λ zs. y ∷ zs) later.3,
          All-cons (λ z. R z n ≢ Greater) y later.0 (λ g. true≢false (sym (ap is_greater g) ∙ h)) later.4,
          later.5,
        )
      ]
      refl

  pub in_order_is_inserted : (xs : List A) (n : A) → IsInserted R n (in_order R xs) (in_order R (xs ++ n ∷ []))
  in_order_is_inserted xs n = subst (λ ys. IsInserted R n (in_order R xs) ys) (sym (in_order_more xs n)) (is_inserted n (in_order R xs) (Rises-in_order xs))
