-- lists in general: what two functions give alike, through a function and a filter, and a number that stands once
use Rattle.std.proofs.Common.{◌≡◌, ℕ, zero, suc, ◌+◌, ◌<◌, ◌≤◌, Bool, true, false, not, cond, eqb, List, [], ◌∷◌, length, map, get_or, refl, sym, ap, ◌∙◌, arith, eq-eqb}
use Rattle.std.specs.List.{All, filter, remove, sum_by}
use Rattle.std.specs.List.Sorted.{IsPartitionedBy}
use Rattle.std.proofs.lemmas.List.{length-map, get_or-map}
use Rattle.std.proofs.lemmas.List.Elements.{All-head, All-tail}
use Rattle.std.proofs.lemmas.List.Sums.{sum_by-cons, get_or-le-sum_by}

-- ---- through a function

pub map_alike : {A B : Type 0} (f g : A → B) (xs : List A) → All (λ x. f x ≡ g x) xs → map f xs ≡ map g xs
map_alike f g [] h = refl
map_alike f g (x ∷ xs) h =
    ap (λ y. y ∷ map f xs) (All-head (λ y. f y ≡ g y) x xs h) ∙ ap (λ ys. g x ∷ ys) (map_alike f g xs (All-tail (λ y. f y ≡ g y) x xs h))

-- what g gives of those that pass p is what passes q of what f gives of all
pub map_filter : {A B : Type 0} (f g : A → B) (p : A → Bool) (q : B → Bool) (xs : List A) → All (λ x. p x ≡ q (f x)) xs → All (λ x. p x ≡ true → g x ≡ f x) xs → map g (filter p xs) ≡ filter q (map f xs)
map_filter f g p q [] h k = refl
map_filter f g p q (x ∷ xs) h k =
    let later : map g (filter p xs) ≡ filter q (map f xs) = map_filter f g p q xs (All-tail (λ y. p y ≡ q (f y)) x xs h) (All-tail (λ y. p y ≡ true → g y ≡ f y) x xs k) in
    let test : p x ≡ q (f x) = All-head (λ y. p y ≡ q (f y)) x xs h in
    elim (p x) as (λ b. p x ≡ b → map g (cond b (x ∷ filter p xs) (filter p xs)) ≡ cond (q (f x)) (f x ∷ filter q (map f xs)) (filter q (map f xs))) [
      | true ↦ λ e. (
          ap (λ y. y ∷ map g (filter p xs)) (All-head (λ y. p y ≡ true → g y ≡ f y) x xs k e)
          ∙ ap (λ ys. f x ∷ ys) later
          ∙ sym (ap (λ b. cond b (f x ∷ filter q (map f xs)) (filter q (map f xs))) (sym test ∙ e))
          )
      | false ↦ λ e. later ∙ sym (ap (λ b. cond b (f x ∷ filter q (map f xs)) (filter q (map f xs))) (sym test ∙ e))
    ]
    refl

-- a test parts a list, if it parts what f gives
pub parted_map : {A B : Type 0} (f : A → B) (p : B → Bool) (xs : List A) → IsPartitionedBy p (map f xs) → IsPartitionedBy (λ x. p (f x)) xs
parted_map f p xs h i j d l m t =
    let long : length (map f xs) ≡ length xs = length-map xs f in
    let first : get_or (map f xs) i (f d) ≡ f (get_or xs i d) = get_or-map f xs i d (f d) (omega arith) in
    let last : get_or (map f xs) j (f d) ≡ f (get_or xs j d) = get_or-map f xs j d (f d) m in
    sym (ap p first) ∙ h i j (f d) l (omega arith) (ap p last ∙ t)

-- ---- a number that stands once

abbrev pub one_if : ℕ → ℕ → ℕ
one_if k x = cond (eqb x k) 1 0

-- a number that doesn't stand in a list
pub none_left : (k : ℕ) (xs : List ℕ) → sum_by (one_if k) xs ≡ 0 → filter (λ x. not (eqb x k)) xs ≡ xs
none_left k [] h = refl
none_left k (x ∷ xs) h =
    elim (eqb x k) as (λ b. cond b 1 0 + sum_by (one_if k) xs ≡ 0 → cond (not b) (x ∷ filter (λ y. not (eqb y k)) xs) (filter (λ y. not (eqb y k)) xs) ≡ x ∷ xs)
    [ true ↦ λ t. absurd (omega arith) | false ↦ λ t. ap (λ ys. x ∷ ys) (none_left k xs (omega arith)) ] (sym (sum_by-cons (one_if k) x xs) ∙ h)

there_once : (k : ℕ) (xs : List ℕ) (at : ℕ) → at < length xs → get_or xs at k ≡ k → 1 ≤ sum_by (one_if k) xs
there_once k xs at l e =
    let one : one_if k (get_or xs at k) ≡ 1 = ap (λ b. cond b 1 0) (eq-eqb (get_or xs at k) k e) in
    omega (arith, one, get_or-le-sum_by (one_if k) xs at k l)

-- the list without a number that stands once in it
pub one_gone : (k : ℕ) (xs : List ℕ) (at : ℕ) → at < length xs → get_or xs at k ≡ k → sum_by (one_if k) xs ≡ 1 → filter (λ x. not (eqb x k)) xs ≡ remove xs at
one_gone k [] at l e h = absurd (omega arith)
one_gone k (x ∷ xs) zero l e h =
    let same : eqb x k ≡ true = eq-eqb x k e in
    let here : one_if k x ≡ 1 = ap (λ b. cond b 1 0) same in
    let total : one_if k x + sum_by (one_if k) xs ≡ 1 = sym (sum_by-cons (one_if k) x xs) ∙ h in
    ap (λ b. cond (not b) (x ∷ filter (λ y. not (eqb y k)) xs) (filter (λ y. not (eqb y k)) xs)) same ∙ none_left k xs (omega (arith, here, total))
one_gone k (x ∷ xs) (suc at) l e h =
    elim (eqb x k) as (λ b. cond b 1 0 + sum_by (one_if k) xs ≡ 1 → cond (not b) (x ∷ filter (λ y. not (eqb y k)) xs) (filter (λ y. not (eqb y k)) xs) ≡ x ∷ remove xs at)
    [ true ↦ λ t. absurd (omega (arith, there_once k xs at (omega arith) e)) | false ↦ λ t. ap (λ ys. x ∷ ys) (one_gone k xs at (omega arith) e (omega arith)) ] (sym (sum_by-cons (one_if k) x xs) ∙ h)
