-- elements in order, where the elements or the order change: through a function, by an order that agrees, by one that ties refine, and without some of them
use Rattle.std.proofs.Common.{◌≡◌, suc, Bool, true, false, cond, List, [], ◌∷◌, map, get_or, refl, sym, ap, ◌∙◌, arith}
use Rattle.std.specs.List.{All, AllPairs, Contains, filter}
use Rattle.std.specs.Cmp.{IsTotalOrder}
use Rattle.std.specs.Ordering.{ordering_then, then_cmp}
use Rattle.std.specs.declared.cmp.Ordering.{Ordering}
use Rattle.std.specs.declared.cmp.Ordering.TheVariants.{Less, Equal, Greater}
use Rattle.std.proofs.lemmas.List.Elements.{All-head, All-tail, All-filter, Contains-get_or}
use Rattle.std.proofs.lemmas.List.Sorted.{All-permutation}
use Rattle.collate_lists.specs.Names.{is_greater, placed_before, in_order}
use Rattle.collate_lists.proofs.NamesLemmas.{in_order_is_permutation, Rises, Rises-in_order, first_upto}

-- ---- through a function

map_either : {A B : Type 0} (f : A → B) (b : Bool) (us vs : List A) → map f (cond b us vs) ≡ cond b (map f us) (map f vs)
map_either f true us vs = refl
map_either f false us vs = refl

module _ {A B : Type 0} (f : A → B) (R : A → A → Ordering) (S : B → B → Ordering) (same : (x y : A) → R x y ≡ S (f x) (f y)) where
  placed_map : (x : A) (ys : List A) → map f (placed_before R x ys) ≡ placed_before S (f x) (map f ys)
  unfolding placed_before
  placed_map x [] = refl
  placed_map x (y ∷ ys) =
      map_either f (is_greater (R x y)) (y ∷ placed_before R x ys) (x ∷ y ∷ ys)
      ∙ ap (λ zs. cond (is_greater (R x y)) (f y ∷ zs) (f x ∷ f y ∷ map f ys)) (placed_map x ys)
      ∙ ap (λ r. cond (is_greater r) (f y ∷ placed_before S (f x) (map f ys)) (f x ∷ f y ∷ map f ys)) (same x y)

  -- what f gives of elements in order is in order, where f keeps how they compare
  pub in_order_map : (xs : List A) → map f (in_order R xs) ≡ in_order S (map f xs)
  unfolding in_order
  in_order_map [] = refl
  in_order_map (x ∷ xs) = placed_map x (in_order R xs) ∙ ap (placed_before S (f x)) (in_order_map xs)

-- ---- by another order

module _ {A : Type 0} (R S : A → A → Ordering) where
  placed_alike : (x : A) (ys : List A) → All (λ y. is_greater (R x y) ≡ is_greater (S x y)) ys → placed_before R x ys ≡ placed_before S x ys
  unfolding placed_before
  placed_alike x [] h = refl
  placed_alike x (y ∷ ys) h =
      ap (λ b. cond b (y ∷ placed_before R x ys) (x ∷ y ∷ ys)) (All-head (λ z. is_greater (R x z) ≡ is_greater (S x z)) y ys h)
      ∙ ap (λ zs. cond (is_greater (S x y)) (y ∷ zs) (x ∷ y ∷ ys)) (placed_alike x ys (All-tail (λ z. is_greater (R x z) ≡ is_greater (S x z)) y ys h))

  -- two orders that agree which elements are above a later one
  pub in_order_same : (xs : List A) → AllPairs (λ x y. is_greater (R x y) ≡ is_greater (S x y)) xs → in_order R xs ≡ in_order S xs
  unfolding in_order
  in_order_same [] h = refl
  in_order_same (x ∷ xs) h =
      let later : All (λ y. is_greater (R x y) ≡ is_greater (S x y)) xs = λ k d l. h 0 (suc k) d (omega arith) (omega arith) in
      placed_alike x (in_order R xs) (All-permutation (λ y. is_greater (R x y) ≡ is_greater (S x y)) xs (in_order R xs) (in_order_is_permutation R xs) later)
      ∙ ap (placed_before S x) (in_order_same xs (λ i j d l m. h (suc i) (suc j) d (omega arith) (omega arith)))

  -- two orders that agree on the elements
  pub in_order_alike : (xs : List A) → ((x y : A) → Contains xs x → Contains xs y → R x y ≡ S x y) → in_order R xs ≡ in_order S xs
  in_order_alike xs h =
      in_order_same xs (λ i j d l m. ap is_greater (h (get_or xs i d) (get_or xs j d) (Contains-get_or xs i d (omega arith)) (Contains-get_or xs j d m)))

then_above : (r t : Ordering) → t ≡ Less → is_greater r ≡ is_greater (ordering_then r t)
then_above Less t h = refl
then_above Equal t h = sym (ap is_greater h)
then_above Greater t h = refl

-- elements that rise in T as they arrived: T may decide between equal ones
pub in_order_tied : {A : Type 0} (R T : A → A → Ordering) (xs : List A) → AllPairs (λ x y. T x y ≡ Less) xs → in_order R xs ≡ in_order (then_cmp R T) xs
in_order_tied R T xs h = in_order_same R (then_cmp R T) xs (λ i j d l m. then_above (R (get_or xs i d) (get_or xs j d)) (T (get_or xs i d) (get_or xs j d)) (h i j d l m))

-- ---- without some of them

module _ {A : Type 0} (R : A → A → Ordering) (o : IsTotalOrder R) (p : A → Bool) where
  placed_first : (x : A) (zs : List A) → All (λ z. is_greater (R x z) ≡ false) zs → placed_before R x zs ≡ x ∷ zs
  unfolding placed_before
  placed_first x [] h = refl
  placed_first x (z ∷ zs) h = ap (λ b. cond b (z ∷ placed_before R x zs) (x ∷ z ∷ zs)) (All-head (λ y. is_greater (R x y) ≡ false) z zs h)

  placed_behind : (x y : A) (zs : List A) → is_greater (R x y) ≡ true → cond (p y) (y ∷ placed_before R x zs) (placed_before R x zs) ≡ placed_before R x (cond (p y) (y ∷ zs) zs)
  unfolding placed_before
  placed_behind x y zs h =
      elim (p y) as (λ b. cond b (y ∷ placed_before R x zs) (placed_before R x zs) ≡ placed_before R x (cond b (y ∷ zs) zs))
      [ true ↦ sym (ap (λ b. cond b (y ∷ placed_before R x zs) (x ∷ y ∷ zs)) h) | false ↦ refl ]

  -- an element that is left out
  placed_left_out : (x : A) → p x ≡ false → (ys : List A) → filter p (placed_before R x ys) ≡ filter p ys
  unfolding placed_before
  placed_left_out x e [] = ap (λ b. cond b (x ∷ []) []) e
  placed_left_out x e (y ∷ ys) =
      elim (is_greater (R x y)) as (λ b. filter p (cond b (y ∷ placed_before R x ys) (x ∷ y ∷ ys)) ≡ filter p (y ∷ ys)) [
        | true ↦ ap (λ zs. cond (p y) (y ∷ zs) zs) (placed_left_out x e ys)
        | false ↦ ap (λ b. cond b (x ∷ filter p (y ∷ ys)) (filter p (y ∷ ys))) e
      ]

  -- an element that stays
  placed_kept : (x : A) → p x ≡ true → (ys : List A) → Rises R o ys → filter p (placed_before R x ys) ≡ placed_before R x (filter p ys)
  unfolding placed_before
  placed_kept x e [] r = ap (λ b. cond b (x ∷ []) []) e
  placed_kept x e (y ∷ ys) r =
      elim (is_greater (R x y)) as (λ b. is_greater (R x y) ≡ b → filter p (cond b (y ∷ placed_before R x ys) (x ∷ y ∷ ys)) ≡ placed_before R x (filter p (y ∷ ys))) [
        | true ↦ λ h. ap (λ zs. cond (p y) (y ∷ zs) zs) (placed_kept x e ys r.1) ∙ placed_behind x y (filter p ys) h
        | false ↦ λ h. (
            ap (λ b. cond b (x ∷ filter p (y ∷ ys)) (filter p (y ∷ ys))) e
            ∙ sym (placed_first x (filter p (y ∷ ys)) (All-filter p (λ z. is_greater (R x z) ≡ false) (y ∷ ys) (first_upto R o x (y ∷ ys) h r)))
            )
      ]
      refl

  -- those that pass p stand in the order that they have among all
  pub in_order_filter : (xs : List A) → in_order R (filter p xs) ≡ filter p (in_order R xs)
  unfolding in_order
  in_order_filter [] = refl
  in_order_filter (x ∷ xs) =
      elim (p x) as (λ b. p x ≡ b → in_order R (cond b (x ∷ filter p xs) (filter p xs)) ≡ filter p (placed_before R x (in_order R xs))) [
        | true ↦ λ e. ap (placed_before R x) (in_order_filter xs) ∙ sym (placed_kept x e (in_order R xs) (Rises-in_order R o xs))
        | false ↦ λ e. in_order_filter xs ∙ sym (placed_left_out x e (in_order R xs))
      ]
      refl
