-- of values in order those that aren't equal to the last one kept are the first of equal ones
use Rattle.std.proofs.Common.{◌≡◌, Bool, true, false, cond, not, List, [], ◌∷◌, refl, sym, ap, ◌∙◌, true≢false}
use Rattle.std.specs.List.{All, dedup, dedup_from, filter}
use Rattle.std.specs.Cmp.{IsTotalOrder}
use Rattle.std.specs.Ordering.{ordering_reverse}
use Rattle.std.specs.declared.cmp.Ordering.{Ordering}
use Rattle.std.specs.declared.cmp.Ordering.TheVariants.{Less, Equal, Greater}
use Rattle.std.proofs.lemmas.List.Elements.{All-cons, All-filter, All-head, All-nil, All-tail, All-weaker}
use Rattle.collate_lists.specs.Names.{is_equal, is_greater}
use Rattle.collate_lists.proofs.NamesLemmas.{Rises, first_upto, upto_chain}
use Rattle.collate_lists.proofs.NameSearchLemmas.{filter_all}
use Rattle.collate_keyed_lines.specs.KeyedLines.{first_of_equals, is_same}

equal_back : (r : Ordering) → is_equal (ordering_reverse r) ≡ is_equal r
equal_back Less = refl
equal_back Equal = refl
equal_back Greater = refl

equal_is : (r : Ordering) → is_equal r ≡ true → r ≡ Equal
equal_is Less h = cc
equal_is Equal h = refl
equal_is Greater h = cc

filter_alike : {A : Type 0} (p q : A → Bool) → ((x : A) → p x ≡ q x) → (xs : List A) → filter p xs ≡ filter q xs
filter_alike p q h [] = refl
filter_alike p q h (x ∷ xs) = ap (λ b. cond b (x ∷ filter p xs) (filter p xs)) (h x) ∙ ap (λ ys. cond (q x) (x ∷ ys) ys) (filter_alike p q h xs)

passed : {A : Type 0} (p : A → Bool) (x : A) → All (λ y. p y ≡ true) [] → (xs : List A) → All (λ y. p y ≡ true) (filter p xs)
passed p x none [] = none
passed p x none (y ∷ ys) =
    elim (p y) as (λ b. p y ≡ b → All (λ z. p z ≡ true) (cond b (y ∷ filter p ys) (filter p ys)))
    [ true ↦ λ e. All-cons (λ z. p z ≡ true) y (filter p ys) e (passed p x none ys) | false ↦ λ e. passed p x none ys ] refl

-- what passes a test passes it again
filter_twice : {A : Type 0} (p : A → Bool) (x : A) (xs : List A) → filter p (filter p xs) ≡ filter p xs
filter_twice p x xs = filter_all p (filter p xs) (passed p x (All-nil (λ y. p y ≡ true)) xs)

module _ {A : Type 0} (R : A → A → Ordering) (o : IsTotalOrder R) where
  abbrev differs_from : A → A → Bool
  differs_from x y = not (is_equal (R x y))

  pub same_back : (x y : A) → is_equal (R x y) ≡ is_equal (R y x)
  same_back x y = ap is_equal (o.antisymm x y) ∙ equal_back (R y x)

  All-first : (P : A → Type 0) (xs : List A) → All P xs → All P (first_of_equals R xs)
  unfolding first_of_equals
  All-first P [] h = h
  All-first P (x ∷ xs) h =
      All-cons P x (filter (differs_from x) (first_of_equals R xs)) (All-head P x xs h)
      (All-filter (differs_from x) P (first_of_equals R xs) (All-first P xs (All-tail P x xs h)))

  -- equal ones are told from the same others
  differs_alike : (k x : A) → is_equal (R x k) ≡ true → (y : A) → differs_from k y ≡ differs_from x y
  differs_alike k x h y = ap (λ r. not (is_equal r)) (sym (o.congr x k y (equal_is (R x k) h)))

  below_level : (k x y : A) → R k x ≡ Less → R x y ≡ Equal → R k y ≡ Less
  below_level k x y e f =
      o.antisymm k y ∙ ap ordering_reverse (sym (o.congr x y k f)) ∙ sym (o.antisymm k x) ∙ e

  pub below_behind : (k x y : A) → R k x ≡ Less → is_greater (R x y) ≡ false → R k y ≡ Less
  below_behind k x y e up =
      elim (R x y) as (λ r. R x y ≡ r → is_greater r ≡ false → R k y ≡ Less) [
        | Less ↦ λ f h. o.trans k x y e f
        | Equal ↦ λ f h. below_level k x y e f
        | Greater ↦ λ f h. absurd (true≢false h)
      ]
      refl up

  above_differs : (k x : A) (r : Ordering) → R k x ≡ r → is_greater r ≡ false → is_equal r ≡ false → (y : A) → is_greater (R x y) ≡ false → differs_from k y ≡ true
  above_differs k x Less e h n y up = ap (λ r. not (is_equal r)) (below_behind k x y e up)
  above_differs k x Equal e h n y up = absurd (true≢false n)
  above_differs k x Greater e h n y up = absurd (true≢false h)

  -- what may stand after the second may stand after the first
  rises_past : (k x : A) (xs : List A) → Rises R o (k ∷ x ∷ xs) → Rises R o (k ∷ xs)
  rises_past k x [] r = (tt, tt)
  rises_past k x (y ∷ ys) r = (upto_chain R o k x y r.0 r.1.0, r.1.1)

  -- those after one that is equal are the same without it
  kept_out : (k x : A) (F : List A) → is_equal (R x k) ≡ true → filter (differs_from k) (x ∷ filter (differs_from x) F) ≡ filter (differs_from k) F
  kept_out k x F e =
      let inside : List A = filter (differs_from k) (filter (differs_from x) F) in
      ap (λ b. cond b (x ∷ inside) inside) (ap not (same_back k x ∙ e))
      ∙ ap (filter (differs_from k)) (filter_alike (differs_from x) (differs_from k) (λ y. sym (differs_alike k x e y)) F)
      ∙ filter_twice (differs_from k) x F

  -- those after one that is above all differ
  kept_in : (k x : A) (xs : List A) → Rises R o (k ∷ x ∷ xs) → is_equal (R x k) ≡ false
      → filter (differs_from k) (x ∷ filter (differs_from x) (first_of_equals R xs)) ≡ x ∷ filter (differs_from x) (first_of_equals R xs)
  kept_in k x xs r e =
      let F : List A = first_of_equals R xs in
      let apart : is_equal (R k x) ≡ false = same_back k x ∙ e in
      let later : All (λ y. differs_from k y ≡ true) xs =
      All-weaker (λ y. is_greater (R x y) ≡ false) (λ y. differs_from k y ≡ true) (λ y up. above_differs k x (R k x) refl r.0 apart y up) xs (first_upto R o x xs r.1.0 r.1.1) in
      let all : All (λ y. differs_from k y ≡ true) (filter (differs_from x) F) =
      All-filter (differs_from x) (λ y. differs_from k y ≡ true) F (All-first (λ y. differs_from k y ≡ true) xs later) in
      filter_all (differs_from k) (x ∷ filter (differs_from x) F) (All-cons (λ y. differs_from k y ≡ true) x (filter (differs_from x) F) (ap not apart) all)

  dedup_from_is : (k : A) (xs : List A) → Rises R o (k ∷ xs) → dedup_from (is_same R) k xs ≡ k ∷ filter (differs_from k) (first_of_equals R xs)
  unfolding first_of_equals
  dedup_from_is k [] r = refl
  dedup_from_is k (x ∷ xs) r =
      let F : List A = first_of_equals R xs in
      elim (is_equal (R x k)) as (λ b. is_equal (R x k) ≡ b → cond b (dedup_from (is_same R) k xs) (k ∷ dedup_from (is_same R) x xs) ≡ k ∷ filter (differs_from k) (x ∷ filter (differs_from x) F)) [
        | true ↦ λ e. dedup_from_is k xs (rises_past k x xs r) ∙ ap (λ ys. k ∷ ys) (sym (kept_out k x F e))
        | false ↦ λ e. ap (λ ys. k ∷ ys) (dedup_from_is x xs r.1 ∙ sym (kept_in k x xs r e))
      ]
      refl

  -- in order, those that aren't equal to the last one kept are the first of equal ones
  pub first_kept : (xs : List A) → Rises R o xs → dedup (is_same R) xs ≡ first_of_equals R xs
  unfolding first_of_equals
  first_kept [] r = refl
  first_kept (x ∷ xs) r = dedup_from_is x xs r

-- what holds of all holds of those that are kept
All-dedup_from : {A : Type 0} (same : A → A → Bool) (P : A → Type 0) (k : A) (xs : List A) → P k → All P xs → All P (dedup_from same k xs)
All-dedup_from same P k [] h all = All-cons P k [] h all
All-dedup_from same P k (x ∷ xs) h all =
    elim (same x k) as (λ b. All P (cond b (dedup_from same k xs) (k ∷ dedup_from same x xs))) [
      | true ↦ All-dedup_from same P k xs h (All-tail P x xs all)
      | false ↦ All-cons P k (dedup_from same x xs) h (All-dedup_from same P x xs (All-head P x xs all) (All-tail P x xs all))
    ]

pub All-dedup : {A : Type 0} (same : A → A → Bool) (P : A → Type 0) (xs : List A) → All P xs → All P (dedup same xs)
All-dedup same P [] all = all
All-dedup same P (x ∷ xs) all = All-dedup_from same P x xs (All-head P x xs all) (All-tail P x xs all)

-- two tests that agree keep the same
dedup_from_alike : {A : Type 0} (same other : A → A → Bool) → ((x k : A) → same x k ≡ other x k) → (k : A) (xs : List A) → dedup_from same k xs ≡ dedup_from other k xs
dedup_from_alike same other h k [] = refl
dedup_from_alike same other h k (x ∷ xs) =
    ap (λ b. cond b (dedup_from same k xs) (k ∷ dedup_from same x xs)) (h x k)
    ∙ ap (λ ys. cond (other x k) ys (k ∷ dedup_from same x xs)) (dedup_from_alike same other h k xs)
    ∙ ap (λ ys. cond (other x k) (dedup_from other k xs) (k ∷ ys)) (dedup_from_alike same other h x xs)

pub dedup_alike : {A : Type 0} (same other : A → A → Bool) → ((x k : A) → same x k ≡ other x k) → (xs : List A) → dedup same xs ≡ dedup other xs
dedup_alike same other h [] = refl
dedup_alike same other h (x ∷ xs) = dedup_from_alike same other h x xs
