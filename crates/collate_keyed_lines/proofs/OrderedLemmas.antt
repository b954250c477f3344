-- a stable sort is in order: what a sort of std ensures says which list it leaves
use denote.Param.Members.{Mut}
use Rattle.std.proofs.Common.{◌≡◌, ℕ, suc, ◌+◌, ◌<◌, Bool, true, false, cond, not, ◌&&◌, List, [], ◌∷◌, length, get_or, refl, sym, ap, ◌∙◌, subst, arith, add-one}
use Rattle.std.specs.List.{All, filter}
use Rattle.std.specs.Borrow.{Bor}
use Rattle.std.specs.Fn.{Called, ComparesAs}
use Rattle.std.specs.List.Sorted.{IsSorted, IsSortedByClosure, IsStable, IsStableByClosure, ties}
use Rattle.std.specs.Prelude.{OnOk, Result}
use Rattle.std.specs.Cmp.{IsStrictWeakOrder, IsTotalOrder}
use Rattle.std.specs.Ordering.{is_lt, ordering_reverse}
use Rattle.std.specs.declared.cmp.Ordering.{Ordering}
use Rattle.std.specs.declared.cmp.Ordering.TheVariants.{Less, Equal, Greater}
use Rattle.std.proofs.lemmas.Cmp.{tied_itself}
use Rattle.std.proofs.lemmas.Fn.{always_returns_same}
use Rattle.std.proofs.lemmas.List.Sorted.{ranks_by}
use Rattle.std.proofs.lemmas.Result.{on_ok_weaker}
use Rattle.std.proofs.lemmas.List.Elements.{All-cons, All-filter, All-head}
use Rattle.collate_lists.specs.Names.{in_order, is_greater}
use Rattle.collate_lists.proofs.NamesLemmas.{Rises, Rises-in_order, first_upto, in_order_is_stable}

less_back : (r : Ordering) → is_lt (ordering_reverse r) ≡ false → is_greater r ≡ false
less_back Less h = refl
less_back Equal h = refl
less_back Greater h = h

neither_above : (r : Ordering) → is_greater r ≡ false → is_greater (ordering_reverse r) ≡ false → r ≡ Equal
neither_above Less h k = cc
neither_above Equal h k = refl
neither_above Greater h k = cc

level_ties : (r : Ordering) → r ≡ Equal → not (is_lt r) && not (is_lt (ordering_reverse r)) ≡ true
level_ties r h = ap (λ s. not (is_lt s) && not (is_lt (ordering_reverse s))) h

module _ {A : Type 0} (R : A → A → Ordering) (o : IsTotalOrder R) where
  abbrev tied_with : A → A → Bool
  tied_with x = ties (λ a b. is_lt (R a b)) x

  tied_level : (x y : A) → R x y ≡ Equal → tied_with x y ≡ true
  tied_level x y h = ap (λ r. not (is_lt (R x y)) && not (is_lt r)) (o.antisymm y x) ∙ level_ties (R x y) h

  -- what is sorted rises
  pub rises_if_sorted : (xs : List A) → ((k : ℕ) (d : A) → suc k < length xs → is_lt (R (get_or xs (suc k) d) (get_or xs k d)) ≡ false) → Rises R o xs
  rises_if_sorted [] h = tt
  rises_if_sorted (x ∷ []) h = (tt, tt)
  rises_if_sorted (x ∷ y ∷ ys) h = (
    less_back (R x y) (ap is_lt (sym (o.antisymm y x)) ∙ h 0 x (omega arith)),
    rises_if_sorted (y ∷ ys) (λ k d l. h (suc k) d (omega arith)),
  )

  pub sorted_rises : (xs : List A) → IsSorted R xs → Rises R o xs
  sorted_rises xs h = rises_if_sorted xs (λ k d l. let e : is_lt (R (get_or xs (k + 1) d) (get_or xs k d)) ≡ false = h k d (omega arith) (omega arith) in rw add-one at e)

  -- the first of values in order isn't above any of these
  level_first : (x : A) (xs : List A) → Rises R o (x ∷ xs) → All (λ w. is_greater (R x w) ≡ false) (x ∷ xs)
  level_first x xs r = All-cons (λ w. is_greater (R x w) ≡ false) x xs (ap is_greater (tied_itself o x)) (first_upto R o x xs r.0 r.1)

  -- nor above one that stands among those that tie with a value
  level_kept : (y z : A) (zs more : List A) → Rises R o (z ∷ zs) → y ∷ more ≡ filter (tied_with y) (z ∷ zs) → is_greater (R z y) ≡ false
  level_kept y z zs more r h =
      All-head (λ w. is_greater (R z w) ≡ false) y more
      (subst (λ ws. All (λ w. is_greater (R z w) ≡ false) ws) (sym h) (All-filter (tied_with y) (λ w. is_greater (R z w) ≡ false) (z ∷ zs) (level_first z zs r)))

  kept_first : (x y : A) (ys : List A) → tied_with x y ≡ true → filter (tied_with x) (y ∷ ys) ≡ y ∷ filter (tied_with x) ys
  kept_first x y ys h = ap (λ b. cond b (y ∷ filter (tied_with x) ys) (filter (tied_with x) ys)) h

  tied_itself' : (x : A) → tied_with x x ≡ true
  tied_itself' x = tied_level x x (tied_itself o x)

  none_tied : (z : A) (zs : List A) → [] ≡ filter (tied_with z) (z ∷ zs) → (P : Type 0) → P
  none_tied z zs h P = let e : [] ≡ z ∷ filter (tied_with z) zs = h ∙ kept_first z z zs (tied_itself' z) in absurd (cc)

  tail_same : (b : Bool) (x : A) (us vs : List A) → cond b (x ∷ us) us ≡ cond b (x ∷ vs) vs → us ≡ vs
  tail_same true x us vs h = cc
  tail_same false x us vs h = h

  -- the first of two lists in order are one where those that tie with each value are the same in both
  first_same : (y z : A) (ys zs : List A) → Rises R o (y ∷ ys) → Rises R o (z ∷ zs)
      → filter (tied_with y) (y ∷ ys) ≡ filter (tied_with y) (z ∷ zs) → filter (tied_with z) (y ∷ ys) ≡ filter (tied_with z) (z ∷ zs) → y ≡ z
  first_same y z ys zs ry rz hy hz =
      let of_y : y ∷ filter (tied_with y) ys ≡ filter (tied_with y) (z ∷ zs) = sym (kept_first y y ys (tied_itself' y)) ∙ hy in
      let of_z : z ∷ filter (tied_with z) zs ≡ filter (tied_with z) (y ∷ ys) = sym (kept_first z z zs (tied_itself' z)) ∙ sym hz in
      let low : is_greater (R z y) ≡ false = level_kept y z zs (filter (tied_with y) ys) rz of_y in
      let high : is_greater (R y z) ≡ false = level_kept z y ys (filter (tied_with z) zs) ry of_z in
      let level : R y z ≡ Equal = neither_above (R y z) high (ap is_greater (sym (o.antisymm z y)) ∙ low) in
      let both : y ∷ filter (tied_with y) ys ≡ z ∷ filter (tied_with y) zs = of_y ∙ kept_first y z zs (tied_level y z level) in
      cc

  -- two lists in order are one where those that tie with each value are the same in both
  pub same_if_ties_same : (ys zs : List A) → Rises R o ys → Rises R o zs → ((x : A) → filter (tied_with x) ys ≡ filter (tied_with x) zs) → ys ≡ zs
  same_if_ties_same [] [] ry rz h = refl
  same_if_ties_same [] (z ∷ zs) ry rz h = none_tied z zs (h z) ([] ≡ z ∷ zs)
  same_if_ties_same (y ∷ ys) [] ry rz h = none_tied y ys (sym (h y)) (y ∷ ys ≡ [])
  same_if_ties_same (y ∷ ys) (z ∷ zs) ry rz h =
      let first : y ≡ z = first_same y z ys zs ry rz (h y) (h z) in
      let rest : (x : A) → filter (tied_with x) ys ≡ filter (tied_with x) zs =
      λ x. tail_same (tied_with x y) y (filter (tied_with x) ys) (filter (tied_with x) zs)
      (h x ∙ ap (λ w. cond (tied_with x w) (w ∷ filter (tied_with x) zs) (filter (tied_with x) zs)) (sym first)) in
      ap (λ w. w ∷ ys) first ∙ ap (λ ws. z ∷ ws) (same_if_ties_same ys zs ry.1 rz.1 rest)

  -- so what is sorted and stable is in order
  pub sorted_stable_is : (xs ys : List A) → IsSorted R ys → IsStable R xs ys → ys ≡ in_order R xs
  sorted_stable_is xs ys sorted stable =
      same_if_ties_same ys (in_order R xs) (sorted_rises ys sorted) (Rises-in_order R o xs)
      (λ x. stable x ∙ sym (in_order_is_stable R o xs x))

-- what `sort_by` ensures, where each call of its closure answers by an order
pub in_order_if_sorted_by : {F A : Type 0} (R : A → A → Ordering) (o : IsTotalOrder R) (g : Mut F (Bor A × (Bor A × Unit {0})) Ordering) (f : F)
    → ((a : Bor A × (Bor A × Unit {0})) (r : Ordering) (f' : F) → Called g f a r f' → (r ≡ R a.0.now a.1.0.now) × (f' ≡ f))
    → {T E : Type 0} (result : Result T E) (xs ys : List A) → OnOk result (IsSortedByClosure g f ys) → IsStableByClosure g f xs ys → OnOk result (ys ≡ in_order R xs)
in_order_if_sorted_by {F} {A} R o g f called result xs ys sorted stable =
    let lt : A → A → Bool = λ x y. is_lt (R x y) in
    let weak : IsStrictWeakOrder lt = ranks_by o (λ (x : A). x) in
    let compares : ComparesAs g lt f = always_returns_same g (λ a r. is_lt r ≡ lt a.0.now a.1.0.now) f (λ a r f' h. (ap is_lt (called a r f' h).0, (called a r f' h).1)) in
    on_ok_weaker result (λ told. sorted_stable_is R o xs ys (told lt weak compares) (stable lt weak compares)) sorted
