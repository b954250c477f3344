-- parts in order, merged, are the whole in order
use Rattle.std.proofs.Common.{◌≡◌, Bool, true, false, cond, List, [], ◌∷◌, ◌++◌, flat_map, map, refl, ap, ◌∙◌, arith}
use Rattle.std.specs.Cmp.{IsTotalOrder}
use Rattle.std.specs.declared.cmp.Ordering.{Ordering}
use Rattle.std.specs.declared.cmp.Ordering.TheVariants.{Greater}
use Rattle.std.proofs.lemmas.List.Folds.{flat_map-map}
use Rattle.collate_keyed_lines.specs.KeyedLines.{first_of_equals}
use Rattle.collate_lists.specs.Names.{in_order, is_greater, placed_before}
use Rattle.collate_lists.proofs.NamesLemmas.{above_chain, greater_is, turned}
use Rattle.collate_merge.specs.Merged.{merged}

module _ {A : Type 0} (R : A → A → Ordering) (o : IsTotalOrder R) where
  not_both : (x z : A) → is_greater (R x z) ≡ true → is_greater (R z x) ≡ false
  not_both x z h = ap is_greater (turned R o z x Greater (greater_is (R x z) h))

  -- of two that differ either may be put into its place first
  swapped : (x z : A) (ys : List A) → is_greater (R x z) ≡ true → placed_before R z (placed_before R x ys) ≡ placed_before R x (placed_before R z ys)
  unfolding placed_before
  swapped x z [] h = grind (arith, not_both x z h)
  swapped x z (y ∷ ys) h = grind (arith, not_both x z h, above_chain R o x z y h, swapped x z ys h)

  placed_front : (x : A) (zs ys : List A) → in_order R (placed_before R x zs ++ ys) ≡ placed_before R x (in_order R (zs ++ ys))
  unfolding in_order placed_before
  placed_front x [] ys = refl
  placed_front x (z ∷ zs) ys =
      elim (is_greater (R x z)) as (λ b. is_greater (R x z) ≡ b → in_order R (cond b (z ∷ placed_before R x zs) (x ∷ z ∷ zs) ++ ys) ≡ placed_before R x (placed_before R z (in_order R (zs ++ ys)))) [
        | true ↦ λ h. ap (placed_before R z) (placed_front x zs ys) ∙ swapped x z (in_order R (zs ++ ys)) h
        | false ↦ λ h. refl
      ]
      refl

  front_sorted : (xs ys : List A) → in_order R (in_order R xs ++ ys) ≡ in_order R (xs ++ ys)
  unfolding in_order
  front_sorted [] ys = refl
  front_sorted (x ∷ xs) ys = placed_front x (in_order R xs) ys ∙ ap (placed_before R x) (front_sorted xs ys)

  back_alike : (xs ys zs : List A) → in_order R ys ≡ in_order R zs → in_order R (xs ++ ys) ≡ in_order R (xs ++ zs)
  unfolding in_order
  back_alike [] ys zs h = h
  back_alike (x ∷ xs) ys zs h = ap (placed_before R x) (back_alike xs ys zs h)

  parts_sorted : (parts : List (List A)) → in_order R (flat_map (in_order R) parts) ≡ in_order R (flat_map (λ part. part) parts)
  parts_sorted [] = refl
  parts_sorted (part ∷ parts) =
      front_sorted part (flat_map (in_order R) parts) ∙ back_alike part (flat_map (in_order R) parts) (flat_map (λ xs. xs) parts) (parts_sorted parts)

  pub parts_merged : (unique : Bool) (parts : List (List A)) → merged unique R (map (in_order R) parts) ≡ merged unique R parts
  parts_merged false parts = ap (in_order R) (flat_map-map (λ xs. xs) (in_order R) parts) ∙ parts_sorted parts
  parts_merged true parts = ap (first_of_equals R) (ap (in_order R) (flat_map-map (λ xs. xs) (in_order R) parts) ∙ parts_sorted parts)
