-- Lists in another order: what is made of them item by item.
use Rattle.std.proofs.Common.{◌≡◌, ℕ, zero, suc, ◌<◌, ⊎_elim, Bool, true, false, cond, List, [], ◌∷◌, ◌++◌, length, get_or, set, take, sym, ap, ◌∙◌, subst, arith, append_assoc}
use Rattle.std.specs.Prelude.{flat_map}
use Rattle.std.specs.List.{IsDistinct, filter, list_any, swap}
use Rattle.std.specs.List.Sorted.{IsPermutation}
use Rattle.std.proofs.lemmas.Bool.{false_from_ne_true, false≢true, or_cases}
use Rattle.std.proofs.lemmas.List.{get_or-take, get_or_default, length-take-le}
use Rattle.std.proofs.lemmas.List.Folds.{list_any_at}
use Rattle.std.proofs.lemmas.List.Sorted.{IsPermutation-append_comm, IsPermutation-append_left, IsPermutation-append_right, IsPermutation-cons, IsPermutation-keeps, IsPermutation-middle, IsPermutation-refl, IsPermutation-trans}
use Rattle.std.proofs.lemmas.Map.Keys.{IsDistinct-IsPermutation, IsDistinct-from_apart, apart_from_distinct}
use Rattle.std.proofs.lemmas.List.Edits.{swap_is}

-- ---- A relation that neighbours' exchanges keep

module _ {X : Type 0} (R : List X → List X → Type 0) (same : (xs : List X) → R xs xs) (then : (xs ys zs : List X) → R xs ys → R ys zs → R xs zs)
    (under : (x : X) (xs ys : List X) → R xs ys → R (x ∷ xs) (x ∷ ys)) (flip : (x y : X) (zs : List X) → R (x ∷ y ∷ zs) (y ∷ x ∷ zs)) where
  -- the first and a later one
  first_put : (ys : List X) (j : ℕ) (x y : X) → j < length ys → get_or ys j y ≡ y → R (x ∷ ys) (y ∷ set ys j x)
  first_put [] j x y lt is = absurd (omega (arith, lt))
  first_put (z ∷ zs) zero x y lt is = subst (λ (w : X). R (x ∷ z ∷ zs) (w ∷ x ∷ zs)) is (flip x z zs)
  first_put (z ∷ zs) (suc j) x y lt is =
      then (x ∷ z ∷ zs) (z ∷ x ∷ zs) (y ∷ z ∷ set zs j x) (flip x z zs)
      (then (z ∷ x ∷ zs) (z ∷ y ∷ set zs j x) (y ∷ z ∷ set zs j x) (under z (x ∷ zs) (y ∷ set zs j x) (first_put zs j x y (omega (arith, lt)) is)) (flip z y (set zs j x)))

  exchanged : (l : List X) (i j : ℕ) → i < length l → j < length l → R l (swap l i j)
  exchanged [] i j a b = absurd (omega (arith, a))
  exchanged (d ∷ ys) zero zero a b = same (d ∷ ys)
  exchanged (d ∷ ys) zero (suc j) a b =
      first_put ys j d (get_or ys j d) (omega (arith, b)) (get_or_default ys j (get_or ys j d) d (omega (arith, b)))
  exchanged (d ∷ ys) (suc i) zero a b =
      first_put ys i d (get_or ys i d) (omega (arith, a)) (get_or_default ys i (get_or ys i d) d (omega (arith, a)))
  exchanged (d ∷ ys) (suc i) (suc j) a b =
      let p : i < length ys = omega (arith, a) in
      let q : j < length ys = omega (arith, b) in
      subst (λ (zs : List X). R (d ∷ ys) (d ∷ zs)) (sym (swap_is ys i j d p q)) (under d ys (swap ys i j) (exchanged ys i j p q))

  pub moved : (xs ys : List X) → IsPermutation xs ys → R xs ys
  moved xs = IsPermutation-keeps xs (λ l. R xs l) (same xs) (λ l i j a b h. then xs l (swap l i j) h (exchanged l i j a b))

-- ---- Items that are kept, and items that each gives

module _ {X : Type 0} (p : X → Bool) where
  filter_under : (x : X) (xs ys : List X) → IsPermutation (filter p xs) (filter p ys) → IsPermutation (filter p (x ∷ xs)) (filter p (x ∷ ys))
  filter_under x xs ys h = by (p x)
    where
      by : (b : Bool) → IsPermutation (cond b (x ∷ filter p xs) (filter p xs)) (cond b (x ∷ filter p ys) (filter p ys))
      by true = IsPermutation-cons x (filter p xs) (filter p ys) h
      by false = h

  filter_flip : (x y : X) (zs : List X) → IsPermutation (filter p (x ∷ y ∷ zs)) (filter p (y ∷ x ∷ zs))
  filter_flip x y zs = by (p x) (p y)
    where
      F : List X
      F = filter p zs

      by : (b c : Bool) → IsPermutation (cond b (x ∷ cond c (y ∷ filter p zs) (filter p zs)) (cond c (y ∷ filter p zs) (filter p zs)))
          (cond c (y ∷ cond b (x ∷ filter p zs) (filter p zs)) (cond b (x ∷ filter p zs) (filter p zs)))
      by true true = IsPermutation-middle (x ∷ []) y (filter p zs)
      by true false = IsPermutation-refl (x ∷ filter p zs)
      by false true = IsPermutation-refl (y ∷ filter p zs)
      by false false = IsPermutation-refl (filter p zs)

  -- the items that pass, in another order
  pub filter_moved : (xs ys : List X) → IsPermutation xs ys → IsPermutation (filter p xs) (filter p ys)
  filter_moved =
      moved (λ xs ys. IsPermutation (filter p xs) (filter p ys)) (λ xs. IsPermutation-refl (filter p xs))
      (λ xs ys zs. IsPermutation-trans (filter p xs) (filter p ys) (filter p zs)) filter_under filter_flip

module _ {X A : Type 0} (f : X → List A) where
  flat_flip : (x y : X) (zs : List X) → IsPermutation (flat_map f (x ∷ y ∷ zs)) (flat_map f (y ∷ x ∷ zs))
  flat_flip x y zs =
      subst (λ (l : List A). IsPermutation l (f y ++ (f x ++ flat_map f zs))) (append_assoc (f x) (f y) (flat_map f zs))
      (subst (λ (l : List A). IsPermutation ((f x ++ f y) ++ flat_map f zs) l) (append_assoc (f y) (f x) (flat_map f zs))
      (IsPermutation-append_left (flat_map f zs) (f x ++ f y) (f y ++ f x) (IsPermutation-append_comm (f x) (f y))))

  -- what items give, in another order
  pub flat_map_moved : (xs ys : List X) → IsPermutation xs ys → IsPermutation (flat_map f xs) (flat_map f ys)
  flat_map_moved =
      moved (λ xs ys. IsPermutation (flat_map f xs) (flat_map f ys)) (λ xs. IsPermutation-refl (flat_map f xs))
      (λ xs ys zs. IsPermutation-trans (flat_map f xs) (flat_map f ys) (flat_map f zs))
      (λ x xs ys. IsPermutation-append_right (f x) (flat_map f xs) (flat_map f ys)) flat_flip

-- ---- Items of which no two are alike

module _ {X : Type 0} (alike : X → X → Bool) (d : X) where
  -- no item is alike to an earlier one
  abbrev pub IsNew : List X → Type 0
  IsNew xs = (j : ℕ) → j < length xs → list_any (λ s. alike s (get_or xs j d)) (take j xs) ≡ true → ⊥

  distinct_of_new : (xs : List X) → IsNew xs → IsDistinct alike xs
  distinct_of_new xs new =
      IsDistinct-from_apart alike xs (λ i j e less within.
      let test : X → Bool = λ s. alike s (get_or xs j d) in
      let long : length (take j xs) ≡ j = length-take-le j xs (omega (arith, within)) in
      let read : get_or (take j xs) i d ≡ get_or xs i e = get_or-take j xs i d less ∙ get_or_default xs i d e (omega (arith, less, within)) in
      let other : get_or xs j d ≡ get_or xs j e = get_or_default xs j d e within in
      false_from_ne_true (alike (get_or xs i e) (get_or xs j e))
      (λ t. new j within (list_any_at test (take j xs) i d (omega (arith, less, long)) (ap test read ∙ ap (alike (get_or xs i e)) other ∙ t))))

  found_index : (test : X → Bool) (xs : List X) → list_any test xs ≡ true → (i : ℕ) × (i < length xs) × (test (get_or xs i d) ≡ true)
  found_index test [] h = absurd (false≢true h)
  found_index test (x ∷ xs) h =
      ⊎_elim (λ here. (0, omega arith, here)) (λ later. let w = found_index test xs later in (suc w.0, omega (arith, w.1), w.2))
      (or_cases (test x) (list_any test xs) h)

  new_of_distinct : (xs : List X) → IsDistinct alike xs → IsNew xs
  new_of_distinct xs distinct j within t =
      let test : X → Bool = λ s. alike s (get_or xs j d) in
      let w = found_index test (take j xs) t in
      let long : length (take j xs) ≡ j = length-take-le j xs (omega (arith, within)) in
      let less : w.0 < j = omega (arith, w.1, long) in
      let read : get_or (take j xs) w.0 d ≡ get_or xs w.0 d = get_or-take j xs w.0 d less in
      false≢true (sym (apart_from_distinct alike xs w.0 j d distinct less within) ∙ ap test (sym read) ∙ w.2)

  -- so it is in another order, if being alike goes both ways
  pub new_moved : ((x y : X) → alike x y ≡ alike y x) → (xs ys : List X) → IsPermutation xs ys → IsNew xs → IsNew ys
  new_moved flips xs ys permuted new =
      new_of_distinct ys (IsDistinct-IsPermutation alike flips xs ys permuted (distinct_of_new xs new))
