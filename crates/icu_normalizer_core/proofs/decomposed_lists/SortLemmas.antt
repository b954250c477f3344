-- A stable sort by class puts a run of marks in order.
use Rattle.std.proofs.Common.{◌≡◌, ℕ, zero, suc, ◌<◌, ◌≤◌, Bool, true, false, cond, ltb, ◌&&◌, List, [], ◌∷◌, length, get_or, filter, nat_cmp, is_lt, refl, sym, ap, subst, ◌∙◌, arith, inl, inr, suc-le-suc, zero-le}
use Rattle.std.proofs.lemmas.Bool.{cond-true, cond-false, cases_Bool, and_parts}
use Rattle.std.proofs.lemmas.Bool.Decides.{nat_tests}
use Rattle.std.specs.List.{list_all}
use Rattle.std.specs.List.Sorted.{ties, IsNonDecreasingBy, IsStableByKey}
use Rattle.icu_normalizer_core.specs.Canonical.{put_in_order, marks_in_order}
use Rattle.icu_normalizer_core.specs.Marks.{is_mark}

ties_at : (m n : ℕ) → (ties (λ x y. is_lt (nat_cmp x y)) m n ≡ true → m ≡ n) × (m ≡ n → ties (λ x y. is_lt (nat_cmp x y)) m n ≡ true)
ties_at m n = (λ h. grind (arith, nat_tests), λ h. grind (arith, nat_tests))

passes_at : (m n : ℕ) → (ltb 0 n && ltb n m) ≡ true → n < m
passes_at m n h = grind (arith, nat_tests)

stays_at : (m n : ℕ) → (ltb 0 n && ltb n m) ≡ false → 1 ≤ n → m ≤ n
stays_at m n h pos = grind (arith, nat_tests)

mark_at : (n : ℕ) → ltb 0 n ≡ true → 1 ≤ n
mark_at n h = grind (arith, nat_tests)

filter-kept : (p : ℕ → Bool) (y : ℕ) (ys : List ℕ) → p y ≡ true → filter p (y ∷ ys) ≡ y ∷ filter p ys
filter-kept p y ys h = cond-true _ _ _ h

filter-dropped : (p : ℕ → Bool) (y : ℕ) (ys : List ℕ) → p y ≡ false → filter p (y ∷ ys) ≡ filter p ys
filter-dropped p y ys h = cond-false _ _ _ h

module _ (class : ℕ → ℕ) where
  abbrev same_class : ℕ → ℕ → Bool
  same_class = ties (λ x y. is_lt (nat_cmp (class x) (class y)))

  same_class-true : (x y : ℕ) → same_class x y ≡ true → class x ≡ class y
  same_class-true x y = (ties_at (class x) (class y)).0

  same_class_from : (x y : ℕ) → class x ≡ class y → same_class x y ≡ true
  same_class_from x y = (ties_at (class x) (class y)).1

  -- d goes before c
  abbrev passes : ℕ → ℕ → Bool
  passes c d = ltb 0 (class d) && ltb (class d) (class c)

  put-past : (c d : ℕ) (ds : List ℕ) → passes c d ≡ true → put_in_order class c (d ∷ ds) ≡ d ∷ put_in_order class c ds
  unfolding put_in_order
  put-past c d ds h = cond-true _ _ _ h

  put-stays : (c d : ℕ) (ds : List ℕ) → passes c d ≡ false → put_in_order class c (d ∷ ds) ≡ c ∷ d ∷ ds
  unfolding put_in_order
  put-stays c d ds h = cond-false _ _ _ h

  put-nil : (c : ℕ) → put_in_order class c [] ≡ c ∷ []
  unfolding put_in_order
  put-nil c = refl

  order-nil : marks_in_order class [] ≡ []
  unfolding marks_in_order
  order-nil = refl

  order-cons : (c : ℕ) (cs : List ℕ) → marks_in_order class (c ∷ cs) ≡ put_in_order class c (marks_in_order class cs)
  unfolding marks_in_order
  order-cons c cs = refl

  filter-put : (x c : ℕ) (ds : List ℕ) → filter (same_class x) (put_in_order class c ds) ≡ filter (same_class x) (c ∷ ds)
  filter-put x c [] = ap (filter (same_class x)) (put-nil c)
  filter-put x c (d ∷ ds) =
      let p = same_class x in
      elim (cases_Bool (passes c d)) [
        | inr stays ↦ ap (filter p) (put-stays c d ds stays)
        | inl past ↦
            let lower = passes_at (class c) (class d) past in
            ap (filter p) (put-past c d ds past)
            ∙ elim (cases_Bool (p d)) [
              | inr without ↦
                  filter-dropped p d (put_in_order class c ds) without ∙ filter-put x c ds
                  ∙ ap (λ l. cond (p c) (c ∷ l) l) (sym (filter-dropped p d ds without))
              | inl with ↦
                  elim (cases_Bool (p c)) [
                    | inl both ↦ absurd (omega (arith, lower, same_class-true x c both, same_class-true x d with))
                    | inr only ↦
                        filter-kept p d (put_in_order class c ds) with ∙ ap (λ l. d ∷ l) (filter-put x c ds ∙ filter-dropped p c ds only)
                        ∙ sym (filter-dropped p c (d ∷ ds) only ∙ filter-kept p d ds with)
                  ]
            ]
      ]

  filter-order : (x : ℕ) (cs : List ℕ) → filter (same_class x) (marks_in_order class cs) ≡ filter (same_class x) cs
  filter-order x [] = ap (filter (same_class x)) order-nil
  filter-order x (c ∷ cs) =
      ap (filter (same_class x)) (order-cons c cs) ∙ filter-put x c (marks_in_order class cs)
      ∙ ap (λ l. cond (same_class x c) (c ∷ l) l) (filter-order x cs)

  abbrev AreAtLeast : ℕ → List ℕ → Type 0
  AreAtLeast n [] = Unit {0}
  AreAtLeast n (y ∷ ys) = (n ≤ class y) × AreAtLeast n ys

  abbrev Rises : List ℕ → Type 0
  Rises [] = Unit {0}
  Rises (y ∷ ys) = AreAtLeast (class y) ys × Rises ys

  AreAtLeast-le : (n m : ℕ) (ys : List ℕ) → n ≤ m → AreAtLeast m ys → AreAtLeast n ys
  AreAtLeast-le n m [] le h = tt
  AreAtLeast-le n m (y ∷ ys) le h = let first = h.0 in (omega arith, AreAtLeast-le n m ys le h.1)

  AreAtLeast-at : (n : ℕ) (ys : List ℕ) → ((j : ℕ) → j < length ys → n ≤ class (get_or ys j 0)) → AreAtLeast n ys
  AreAtLeast-at n [] h = tt
  AreAtLeast-at n (y ∷ ys) h = (h zero (suc-le-suc zero-le), AreAtLeast-at n ys (λ j lt. h (suc j) (suc-le-suc lt)))

  Rises-from_sort : (ys : List ℕ) → IsNonDecreasingBy class ys → Rises ys
  Rises-from_sort [] h = tt
  Rises-from_sort (y ∷ ys) h = (
    AreAtLeast-at (class y) ys (λ j lt. h zero (suc j) 0 zero-le (suc-le-suc lt)),
    Rises-from_sort ys (λ i j d le lt. h (suc i) (suc j) d (suc-le-suc le) (suc-le-suc lt)),
  )

  are_marks : (xs : List ℕ) → list_all (is_mark class) xs ≡ true → AreAtLeast 1 xs
  are_marks [] h = tt
  are_marks (x ∷ xs) h =
      let parts = and_parts (is_mark class x) (list_all (is_mark class) xs) h in (mark_at (class x) parts.0, are_marks xs parts.1)

  AreAtLeast-put : (n c : ℕ) (ds : List ℕ) → n ≤ class c → AreAtLeast n ds → AreAtLeast n (put_in_order class c ds)
  AreAtLeast-put n c [] le h = subst (AreAtLeast n) (sym (put-nil c)) (le, tt)
  AreAtLeast-put n c (d ∷ ds) le h =
      elim (cases_Bool (passes c d)) [
        | inl past ↦ subst (AreAtLeast n) (sym (put-past c d ds past)) (h.0, AreAtLeast-put n c ds le h.1)
        | inr stays ↦ subst (AreAtLeast n) (sym (put-stays c d ds stays)) (le, h)
      ]

  Rises-put : (c : ℕ) (ds : List ℕ) → AreAtLeast 1 ds → Rises ds → Rises (put_in_order class c ds)
  Rises-put c [] marks h = subst Rises (sym (put-nil c)) (tt, tt)
  Rises-put c (d ∷ ds) marks h =
      elim (cases_Bool (passes c d)) [
        | inl past ↦
            let lower = passes_at (class c) (class d) past in
            let le : class d ≤ class c = omega arith in
            subst Rises (sym (put-past c d ds past)) (AreAtLeast-put (class d) c ds le h.0, Rises-put c ds marks.1 h.1)
        | inr stays ↦
            let le = stays_at (class c) (class d) stays marks.0 in
            subst Rises (sym (put-stays c d ds stays)) ((le, AreAtLeast-le (class c) (class d) ds le h.0), h)
      ]

  order-rises : (xs : List ℕ) → AreAtLeast 1 xs → AreAtLeast 1 (marks_in_order class xs) × Rises (marks_in_order class xs)
  order-rises [] marks = (subst (AreAtLeast 1) (sym order-nil) tt, subst Rises (sym order-nil) tt)
  order-rises (x ∷ xs) marks =
      let rest = order-rises xs marks.1 in (
        subst (AreAtLeast 1) (sym (order-cons x xs)) (AreAtLeast-put 1 x (marks_in_order class xs) marks.0 rest.0),
        subst Rises (sym (order-cons x xs)) (Rises-put x (marks_in_order class xs) rest.0 rest.1),
      )

  -- the class of x occurs among them
  AreAtLeast-found : (n x : ℕ) (ys : List ℕ) (w : ℕ) (ws : List ℕ) → AreAtLeast n ys → filter (same_class x) ys ≡ w ∷ ws → n ≤ class x
  AreAtLeast-found n x [] w ws h e = cc
  AreAtLeast-found n x (y ∷ ys) w ws h e =
      elim (cases_Bool (same_class x y)) [
        | inl with ↦ omega (arith, h.0, same_class-true x y with)
        | inr without ↦ AreAtLeast-found n x ys w ws h.1 (sym (filter-dropped (same_class x) y ys without) ∙ e)
      ]

  -- lists that rise, and have the same characters of each class in the same order, are one list
  same_from_classes : (ys zs : List ℕ) → Rises ys → Rises zs → ((x : ℕ) → filter (same_class x) ys ≡ filter (same_class x) zs) → ys ≡ zs
  same_from_classes [] [] left right same = refl
  same_from_classes [] (z ∷ zs) left right same =
      let clash = same z ∙ filter-kept (same_class z) z zs (same_class_from z z refl) in cc
  same_from_classes (y ∷ ys) [] left right same =
      let clash = sym (same y) ∙ filter-kept (same_class y) y ys (same_class_from y y refl) in cc
  same_from_classes (y ∷ ys) (z ∷ zs) left right same =
      let at_y = filter-kept (same_class y) y ys (same_class_from y y refl) in
      let at_z = filter-kept (same_class z) z zs (same_class_from z z refl) in
      let up = AreAtLeast-found (class z) y (z ∷ zs) y _ (omega arith, right.0) (sym (same y) ∙ at_y) in
      let down = AreAtLeast-found (class y) z (y ∷ ys) z _ (omega arith, left.0) (same z ∙ at_z) in
      let heads = sym at_y ∙ same y ∙ filter-kept (same_class y) z zs (same_class_from y z (omega arith)) in
      let head : y ≡ z = cc in
      let tails : (x : ℕ) → filter (same_class x) ys ≡ filter (same_class x) zs =
      λ x. elim (cases_Bool (same_class x y)) [
        | inl with ↦
            let both = sym (filter-kept (same_class x) y ys with) ∙ same x ∙ filter-kept (same_class x) z zs (ap (same_class x) (sym head) ∙ with) in cc
        | inr without ↦
            sym (filter-dropped (same_class x) y ys without) ∙ same x ∙ filter-dropped (same_class x) z zs (ap (same_class x) (sym head) ∙ without)
      ] in
      ap (λ w. w ∷ ys) head ∙ ap (λ l. z ∷ l) (same_from_classes ys zs left.1 right.1 tails)

  pub order_from_sort : (xs ys : List ℕ) → list_all (is_mark class) xs ≡ true → IsNonDecreasingBy class ys → IsStableByKey class nat_cmp xs ys → ys ≡ marks_in_order class xs
  order_from_sort xs ys marks sorted stable =
      same_from_classes ys (marks_in_order class xs) (Rises-from_sort ys sorted) (order-rises xs (are_marks xs marks)).1
      (λ x. stable x ∙ sym (filter-order x xs))
