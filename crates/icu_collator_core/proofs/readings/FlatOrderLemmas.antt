-- Characters whose marks stand in order.
use Rattle.std.proofs.Common.{◌≡◌, ℕ, Bool, false, ltb, ◌&&◌, cond, List, [], ◌∷◌, ◌++◌, ◌⊎◌, ⊎_elim, refl, ◌∙◌, ap, ◌≤◌, arith}
use Rattle.std.proofs.lemmas.Bool.{and_left, and_right, le-ltb}
use Rattle.icu_normalizer_core.specs.Canonical.{marks_in_order, put_in_order}
use Rattle.icu_collator_core.specs.FlatNotes.{MayFollow, StandInOrder, last_class}

not_below : (before class : ℕ) → MayFollow before class → (ltb 0 class && ltb class before) ≡ false
not_below before class follows =
    ⊎_elim
    (λ (starter : class ≡ 0). and_left (ltb 0 class) (ltb class before) (ap (ltb 0) starter))
    (λ (above : before ≤ class). and_right (ltb 0 class) (ltb class before) (le-ltb class before above))
    follows

module _ (class : ℕ → ℕ) where
  pub order_stands : (before : ℕ) (list : List ℕ) → StandInOrder class before list → marks_in_order class list ≡ list
  unfolding marks_in_order put_in_order
  order_stands before [] h = refl
  order_stands before (a ∷ []) h = refl
  order_stands before (a ∷ b ∷ cs) h =
      ap (put_in_order class a) (order_stands (class a) (b ∷ cs) h.1)
      ∙ ap (λ (t : Bool). cond t (b ∷ put_in_order class a cs) (a ∷ b ∷ cs)) (not_below (class a) (class b) h.1.0)

  pub order_appended : (before : ℕ) (xs ys : List ℕ) → StandInOrder class before xs → StandInOrder class (last_class class before xs) ys → StandInOrder class before (xs ++ ys)
  order_appended before [] ys h behind = behind
  order_appended before (x ∷ xs) ys h behind = (h.0, order_appended (class x) xs ys h.1 behind)

  pub last_appended : (before : ℕ) (xs ys : List ℕ) → last_class class before (xs ++ ys) ≡ last_class class (last_class class before xs) ys
  last_appended before [] ys = refl
  last_appended before (x ∷ xs) ys = last_appended (class x) xs ys

  starter_kept : (a : ℕ) → class a ≡ 0 → (ds : List ℕ) → put_in_order class a ds ≡ a ∷ ds
  unfolding put_in_order
  starter_kept a starter [] = refl
  starter_kept a starter (d ∷ ds) =
      ap (λ (t : Bool). cond t (d ∷ put_in_order class a ds) (a ∷ d ∷ ds))
      (and_right (ltb 0 (class d)) (ltb (class d) (class a)) (le-ltb (class d) (class a) (omega (arith, starter))))

  -- what stands after a starter doesn't move in front of it
  pub order_closed : (before : ℕ) (list rest : List ℕ) → StandInOrder class before list → last_class class before list ≡ 0
      → marks_in_order class (list ++ rest) ≡ list ++ marks_in_order class rest
  unfolding marks_in_order put_in_order
  order_closed before [] rest h end = refl
  order_closed before (a ∷ []) rest h end = starter_kept a end (marks_in_order class rest)
  order_closed before (a ∷ b ∷ cs) rest h end =
      ap (put_in_order class a) (order_closed (class a) (b ∷ cs) rest h.1 end)
      ∙ ap (λ (t : Bool). cond t (b ∷ put_in_order class a (cs ++ marks_in_order class rest)) (a ∷ b ∷ (cs ++ marks_in_order class rest))) (not_below (class a) (class b) h.1.0)
