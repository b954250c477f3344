-- values and what a function gives of them: where both compare alike, what is done to the ones is done to the others
use Rattle.std.proofs.Common.{◌≡◌, ℕ, ◌+◌, ◌<◌, ◌≤◌, Bool, true, false, cond, not, List, [], ◌∷◌, length, map, get_or, refl, sym, ap, ◌∙◌, subst, arith}
use Rattle.std.specs.List.{All, dedup, dedup_from, filter}
use Rattle.std.specs.declared.cmp.Ordering.{Ordering}
use Rattle.std.proofs.lemmas.List.{get_or-map, length-map}
use Rattle.std.proofs.lemmas.List.Elements.{All-contains, All-cons, All-filter, All-head, All-tail, All-weaker}
use Rattle.collate_lists.specs.Names.{in_order, is_equal}
use Rattle.collate_lists.proofs.NameChangeLemmas.{in_order_alike, in_order_map}
use Rattle.collate_keyed_lines.specs.KeyedLines.{AreInOrder, IsFirstUnordered, first_of_equals, is_same, may_follow}

filter_mapped : {A B : Type 0} (f : A → B) (p : A → Bool) (q : B → Bool) (xs : List A) → All (λ x. p x ≡ q (f x)) xs → map f (filter p xs) ≡ filter q (map f xs)
filter_mapped f p q [] all = refl
filter_mapped f p q (x ∷ xs) all =
    let here : p x ≡ q (f x) = All-head (λ y. p y ≡ q (f y)) x xs all in
    elim (p x) as (λ b. b ≡ q (f x) → map f (cond b (x ∷ filter p xs) (filter p xs)) ≡ cond (q (f x)) (f x ∷ filter q (map f xs)) (filter q (map f xs))) [
      | true ↦ λ e. ap (λ ys. f x ∷ ys) (filter_mapped f p q xs (All-tail (λ y. p y ≡ q (f y)) x xs all)) ∙ ap (λ b. cond b (f x ∷ filter q (map f xs)) (filter q (map f xs))) e
      | false ↦ λ e. filter_mapped f p q xs (All-tail (λ y. p y ≡ q (f y)) x xs all) ∙ ap (λ b. cond b (f x ∷ filter q (map f xs)) (filter q (map f xs))) e
    ]
    here

-- what holds of all holds of the first of equal ones
pub All-first : {A : Type 0} (R : A → A → Ordering) (P : A → Type 0) (xs : List A) → All P xs → All P (first_of_equals R xs)
unfolding first_of_equals
All-first R P [] h = h
All-first R P (x ∷ xs) h =
    All-cons P x (filter (λ y. not (is_equal (R x y))) (first_of_equals R xs)) (All-head P x xs h)
    (All-filter (λ y. not (is_equal (R x y))) P (first_of_equals R xs) (All-first R P xs (All-tail P x xs h)))

module _ {A B : Type 0} (f : A → B) (P : A → Type 0) (R : A → A → Ordering) (S : B → B → Ordering) (agree : (x y : A) → P x → P y → R x y ≡ S (f x) (f y)) where
  pub in_order_mapped : (xs : List A) → All P xs → map f (in_order R xs) ≡ in_order S (map f xs)
  in_order_mapped xs all =
      let through : A → A → Ordering = λ x y. S (f x) (f y) in
      ap (map f) (in_order_alike R through xs (λ x y in_x in_y. agree x y (All-contains P xs x all in_x) (All-contains P xs y all in_y)))
      ∙ in_order_map f through S (λ x y. refl) xs

  pub first_mapped : (xs : List A) → All P xs → map f (first_of_equals R xs) ≡ first_of_equals S (map f xs)
  unfolding first_of_equals
  first_mapped [] all = refl
  first_mapped (x ∷ xs) all =
      let here : P x = All-head P x xs all in
      let later : All P xs = All-tail P x xs all in
      ap (λ ys. f x ∷ ys)
      (filter_mapped f (λ y. not (is_equal (R x y))) (λ y. not (is_equal (S (f x) y))) (first_of_equals R xs)
      (All-weaker P (λ y. not (is_equal (R x y)) ≡ not (is_equal (S (f x) (f y)))) (λ y in'. ap (λ r. not (is_equal r)) (agree x y here in')) (first_of_equals R xs) (All-first R P xs later))
      ∙ ap (filter (λ y. not (is_equal (S (f x) y)))) (first_mapped xs later))

  dedup_from_mapped : (k : A) (xs : List A) → P k → All P xs → map f (dedup_from (is_same R) k xs) ≡ dedup_from (is_same S) (f k) (map f xs)
  dedup_from_mapped k [] h all = refl
  dedup_from_mapped k (x ∷ xs) h all =
      let here : P x = All-head P x xs all in
      let later : All P xs = All-tail P x xs all in
      let both : Bool → List B = λ b. cond b (dedup_from (is_same S) (f k) (map f xs)) (f k ∷ dedup_from (is_same S) (f x) (map f xs)) in
      elim (is_same R x k) as (λ b. is_same R x k ≡ b → map f (cond b (dedup_from (is_same R) k xs) (k ∷ dedup_from (is_same R) x xs)) ≡ both (is_same S (f x) (f k))) [
        | true ↦ λ e. dedup_from_mapped k xs h later ∙ ap both (sym e ∙ ap is_equal (agree x k here h))
        | false ↦ λ e. ap (λ ys. f k ∷ ys) (dedup_from_mapped x xs here later) ∙ ap both (sym e ∙ ap is_equal (agree x k here h))
      ]
      refl

  pub dedup_mapped : (xs : List A) → All P xs → map f (dedup (is_same R) xs) ≡ dedup (is_same S) (map f xs)
  dedup_mapped [] all = refl
  dedup_mapped (x ∷ xs) all = dedup_from_mapped x xs (All-head P x xs all) (All-tail P x xs all)

  module _ (none : A) (unique : Bool) (xs : List A) (all : All P xs) where
    follows_alike : (k : ℕ) (e : B) → k + 1 < length xs
        → may_follow unique (R (get_or xs k none) (get_or xs (k + 1) none)) ≡ may_follow unique (S (get_or (map f xs) k e) (get_or (map f xs) (k + 1) e))
    follows_alike k e h =
        ap (may_follow unique) (agree (get_or xs k none) (get_or xs (k + 1) none) (all k none (omega arith)) (all (k + 1) none h)
        ∙ ap (λ y. S y (f (get_or xs (k + 1) none))) (sym (get_or-map f xs k none e (omega arith)))
        ∙ ap (λ y. S (get_or (map f xs) k e) y) (sym (get_or-map f xs (k + 1) none e h)))

    pub order_mapped : (end : ℕ) → end ≤ length xs → AreInOrder unique R xs end → AreInOrder unique S (map f xs) end
    order_mapped end within h = λ k e l. sym (follows_alike k e (omega arith)) ∙ h k none l

    pub unordered_mapped : (index : ℕ) → IsFirstUnordered unique R xs index → IsFirstUnordered unique S (map f xs) index
    unordered_mapped index first = record {
      behind = first.behind;
      within = omega (arith, first.within, length-map xs f);
      before = order_mapped index (omega (arith, first.within)) first.before;
      here = λ before e is.
          let at : before + 1 < length xs = omega (arith, first.within, is) in
          subst (λ (n : ℕ). may_follow unique (S (get_or (map f xs) before e) (get_or (map f xs) n e)) ≡ false) is
          (sym (follows_alike before e at)
          ∙ subst (λ (n : ℕ). may_follow unique (R (get_or xs before none) (get_or xs n none)) ≡ false) (sym is) (first.here before none is));
    }
