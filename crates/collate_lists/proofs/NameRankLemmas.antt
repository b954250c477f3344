-- where an element stands in a list in order: where a new one goes, where one is found, and what is left without it
use Rattle.std.proofs.Common.{◌≡◌, ℕ, zero, suc, ◌+◌, ◌<◌, ◌≤◌, Bool, true, false, cond, List, [], ◌∷◌, ◌++◌, length, map, get_or, refl, sym, ap, ◌∙◌, arith, true≢false, ◌≢◌, ⊎_elim}
use Rattle.std.specs.List.{All, AllPairs, AllWithin, HoldsAt, Contains, filter, insert, remove}
use Rattle.std.specs.List.Sorted.{IsPartitionedBy, IsPermutation}
use Rattle.std.specs.Cmp.{IsTotalOrder}
use Rattle.std.specs.declared.cmp.Ordering.{Ordering}
use Rattle.std.specs.declared.cmp.Ordering.TheVariants.{Less, Equal, Greater}
use Rattle.std.proofs.lemmas.Bool.{cases_lt, true_from_ne_false}
use Rattle.std.proofs.lemmas.Cmp.{tied_itself}
use Rattle.std.proofs.lemmas.List.{length-map, get_or-map, get_or_default}
use Rattle.std.proofs.lemmas.List.Elements.{Contains-get_or}
use Rattle.std.proofs.lemmas.List.Sorted.{Contains-permutation, IsPermutation-sym}
use Rattle.collate_lists.specs.Names.{is_greater, in_order}
use Rattle.collate_lists.specs.Search.{stands_before, IsRankOf}
use Rattle.collate_lists.proofs.NamesLemmas.{placed_after, in_order_more, in_order_is_permutation, length-in_order}
use Rattle.collate_lists.proofs.NameSearchLemmas.{filter_all, in_order_parted}

-- ---- where a new element goes

above_if : (r : Ordering) → stands_before true r ≡ false → is_greater r ≡ true
above_if Less h = cc
above_if Equal h = cc
above_if Greater h = refl

upto_if : (r : Ordering) → stands_before true r ≡ true → is_greater r ≡ false
upto_if Less h = refl
upto_if Equal h = refl
upto_if Greater h = cc

-- after all that aren't above it is at the rank past them
after_at : {A : Type 0} (R : A → A → Ordering) (x : A) (ys : List A) (at : ℕ) → IsRankOf (λ other. R other x) true ys at → placed_after R x ys ≡ insert ys at x
after_at R x [] zero h = refl
after_at R x [] (suc at) h = refl
after_at R x (y ∷ ys) zero h = ap (λ b. cond b (x ∷ y ∷ ys) (y ∷ placed_after R x ys)) (above_if (R y x) (h.1 0 y (omega arith) (omega arith)))
after_at R x (y ∷ ys) (suc at) h =
    let later : IsRankOf (λ other. R other x) true ys at = (λ k d i j. h.0 (suc k) d (omega arith) (omega arith), λ k d i j. h.1 (suc k) d (omega arith) (omega arith)) in
    ap (λ b. cond b (x ∷ y ∷ ys) (y ∷ placed_after R x ys)) (upto_if (R y x) (h.0 0 y (omega arith) (omega arith)))
    ∙ ap (λ zs. y ∷ zs) (after_at R x ys at later)

-- one more element at the end of the arrivals is put at the rank past those that aren't above it
pub in_order_append : {A : Type 0} (R : A → A → Ordering) → IsTotalOrder R → (xs : List A) (x : A) (at : ℕ) → IsRankOf (λ other. R other x) true (in_order R xs) at → in_order R (xs ++ x ∷ []) ≡ insert (in_order R xs) at x
in_order_append R o xs x at place = in_order_more R o xs x ∙ after_at R x (in_order R xs) at place

-- ---- a rank by another test, and in another list

module _ {A : Type 0} (compared other : A → Ordering) (past : Bool) (xs : List A) (at : ℕ) where
  -- two tests that agree on the elements have the same ranks
  pub rank_alike : at ≤ length xs → All (λ x. compared x ≡ other x) xs → IsRankOf compared past xs at → IsRankOf other past xs at
  rank_alike l same place = (
    λ k d low high. ap (stands_before past) (sym (same k d (omega arith))) ∙ place.0 k d low high,
    λ k d low high. ap (stands_before past) (sym (same k d high)) ∙ place.1 k d low high,
  )

-- a rank among what f gives of the elements
pub rank_map : {A B : Type 0} (f : A → B) (compared : B → Ordering) (past : Bool) (xs : List A) (at : ℕ) → at ≤ length xs → IsRankOf (λ x. compared (f x)) past xs at → IsRankOf compared past (map f xs) at
rank_map f compared past [] at l place = (λ k d low high. absurd (omega arith), λ k d low high. absurd (omega arith))
rank_map {B = B} f compared past (x ∷ xs) at l place =
    let long : length (map f (x ∷ xs)) ≡ length (x ∷ xs) = length-map (x ∷ xs) f in
    let given : (k : ℕ) (d : B) → k < length (x ∷ xs) → get_or (map f (x ∷ xs)) k d ≡ f (get_or (x ∷ xs) k x) = λ k d h. get_or-map f (x ∷ xs) k x d h in (
      λ k d low high. ap (λ y. stands_before past (compared y)) (given k d (omega arith)) ∙ place.0 k x low high,
      λ k d low high. ap (λ y. stands_before past (compared y)) (given k d (omega (arith, long))) ∙ place.1 k x low (omega (arith, long)),
    )

-- ---- an element that is there

not_before : (r : Ordering) → stands_before false r ≡ false → stands_before true r ≡ true → r ≡ Equal
not_before Less h k = cc
not_before Equal h k = refl
not_before Greater h k = cc

module _ {A : Type 0} (compared : A → Ordering) (xs : List A) (at : ℕ) (place : IsRankOf compared false xs at) where
  -- an element that compares Equal, and alone does, stands at the rank before the equal ones
  pub rank_found : IsPartitionedBy (λ x. stands_before true (compared x)) xs → (x : A) → Contains xs x → compared x ≡ Equal → ((y : A) → Contains xs y → compared y ≡ Equal → y ≡ x) → (at < length xs) × HoldsAt (λ y. y ≡ x) xs at
  rank_found parted x found level only =
      let k : ℕ = found.0 in
      let equal : compared (get_or xs k x) ≡ Equal = ap compared found.2 ∙ level in
      let up : at ≤ k =
      ⊎_elim (λ (b : k < at). absurd (true≢false (sym (place.0 k x (omega arith) b) ∙ ap (stands_before false) equal))) (λ (b : at ≤ k). b) (cases_lt k at) in
      let within : at < length xs = omega (arith, found.1) in
      let here : (d : A) → compared (get_or xs at d) ≡ Equal = λ d.
      not_before (compared (get_or xs at d)) (place.1 at d (omega arith) within)
      (parted at k d up found.1 (ap (λ y. stands_before true (compared y)) (get_or_default xs k d x found.1) ∙ ap (stands_before true) equal)) in
      (within, λ d. only (get_or xs at d) (Contains-get_or xs at d within) (here d))

-- the same among elements in order: the rank of one of them, which no other one equals
pub in_order_found : {A : Type 0} (R : A → A → Ordering) → IsTotalOrder R → (xs : List A) (x : A) (at : ℕ) → IsRankOf (λ other. R other x) false (in_order R xs) at → Contains xs x → ((y : A) → Contains xs y → R y x ≡ Equal → y ≡ x) → (at < length xs) × HoldsAt (λ y. y ≡ x) (in_order R xs) at
in_order_found R o xs x at place found only =
    let there : IsPermutation xs (in_order R xs) = in_order_is_permutation R xs in
    let back : IsPermutation (in_order R xs) xs = IsPermutation-sym xs (in_order R xs) there in
    let here : (at < length (in_order R xs)) × HoldsAt (λ y. y ≡ x) (in_order R xs) at =
    rank_found (λ other. R other x) (in_order R xs) at place (in_order_parted R o true x xs) x (Contains-permutation xs (in_order R xs) x there found)
    (tied_itself o x) (λ y inside. only y (Contains-permutation (in_order R xs) xs y back inside)) in
    (omega (arith, here.0, length-in_order R xs), here.1)

-- ---- an element that goes

-- without the element at a rank is without those that fail a test, if it alone fails
pub remove_is_filter : {A : Type 0} (p : A → Bool) (xs : List A) (at : ℕ) → at < length xs → AllWithin (λ x. p x ≡ true) xs 0 at → HoldsAt (λ x. p x ≡ false) xs at → AllWithin (λ x. p x ≡ true) xs (at + 1) (length xs) → remove xs at ≡ filter p xs
remove_is_filter p [] at l before here behind = absurd (omega arith)
remove_is_filter p (x ∷ xs) zero l before here behind =
    sym (ap (λ b. cond b (x ∷ filter p xs) (filter p xs)) (here x)
    ∙ filter_all p xs (λ k d h. behind (suc k) d (omega arith) (omega arith)))
remove_is_filter p (x ∷ xs) (suc at) l before here behind =
    ap (λ ys. x ∷ ys)
    (remove_is_filter p xs at (omega arith) (λ k d low high. before (suc k) d (omega arith) (omega arith)) here (λ k d low high. behind (suc k) d (omega arith) (omega arith)))
    ∙ sym (ap (λ b. cond b (x ∷ filter p xs) (filter p xs)) (before 0 x (omega arith) (omega arith)))

-- the same where no two elements are the same and p fails at one alone
pub remove_distinct : {A : Type 0} (p : A → Bool) (xs : List A) (at : ℕ) → at < length xs → AllPairs (λ x y. x ≢ y) xs → HoldsAt (λ x. p x ≡ false) xs at → ((x y : A) → p x ≡ false → p y ≡ false → x ≡ y) → remove xs at ≡ filter p xs
remove_distinct p xs at l distinct here alone =
    remove_is_filter p xs at l
    (λ k d low high. true_from_ne_false (p (get_or xs k d)) (λ h. distinct k at d high l (alone (get_or xs k d) (get_or xs at d) h (here d))))
    here
    (λ k d low high. true_from_ne_false (p (get_or xs k d)) (λ h. distinct at k d (omega arith) high (alone (get_or xs at d) (get_or xs k d) (here d) h)))
