-- a step of a merge: the least of the first values, of the earliest list that has it, is the first of all in order
use Rattle.std.proofs.Common.{◌≡◌, Bool, true, false, cond, Option, Some, None, List, [], ◌∷◌, ◌++◌, flat_map, refl, sym, ap, ◌∙◌}
use Rattle.std.specs.List.{All, dedup_from}
use Rattle.std.specs.Cmp.{IsTotalOrder}
use Rattle.std.specs.declared.cmp.Ordering.{Ordering}
use Rattle.std.proofs.lemmas.Grind.{flat_map-append}
use Rattle.std.proofs.lemmas.List.Elements.{All-append, All-head, All-nil, All-tail}
use Rattle.std.proofs.lemmas.List.Sorted.{All-permutation}
use Rattle.collate_keyed_lines.specs.KeyedLines.{is_same}
use Rattle.collate_keyed_lines.proofs.FirstLemmas.{first_kept}
use Rattle.collate_lists.specs.Names.{in_order, is_equal, is_greater, placed_before}
use Rattle.collate_lists.proofs.NamesLemmas.{Rises-in_order, in_order_is_permutation}
use Rattle.collate_merge.specs.Merged.{StartsAbove, StartsUpto, ordered_behind, ordered_part, put_in_order}
use Rattle.collate_merge.specs.Written.{all_written, fresh_behind, last_behind, written_of}
use Rattle.collate_merge.proofs.OrderedPartLemmas.{behind_upto, next_part, part_above, part_upto}

All-flat_map : {A B : Type 0} (P : B → Type 0) (f : A → List B) (xs : List A) → All (λ x. All P (f x)) xs → All P (flat_map f xs)
All-flat_map P f [] all = All-nil P
All-flat_map P f (x ∷ xs) all = All-append P (f x) (flat_map f xs) (All-head (λ y. All P (f y)) x xs all) (All-flat_map P f xs (All-tail (λ y. All P (f y)) x xs all))

module _ {A : Type 0} (R : A → A → Ordering) where
  placed_first : (x : A) (zs : List A) → All (λ z. is_greater (R x z) ≡ false) zs → placed_before R x zs ≡ x ∷ zs
  unfolding placed_before
  placed_first x [] h = refl
  placed_first x (z ∷ zs) h = ap (λ b. cond b (z ∷ placed_before R x zs) (x ∷ z ∷ zs)) (All-head (λ y. is_greater (R x y) ≡ false) z zs h)

  -- a value below all those before it and above none after it is the first in order
  first_out : (x : A) (front back : List A) → All (λ y. is_greater (R y x) ≡ true) front → All (λ y. is_greater (R x y) ≡ false) back
      → in_order R (front ++ x ∷ back) ≡ x ∷ in_order R (front ++ back)
  unfolding in_order placed_before
  first_out x [] back above upto =
      placed_first x (in_order R back) (All-permutation (λ y. is_greater (R x y) ≡ false) back (in_order R back) (in_order_is_permutation R back) upto)
  first_out x (y ∷ ys) back above upto =
      ap (placed_before R y) (first_out x ys back (All-tail (λ z. is_greater (R z x) ≡ true) y ys above) upto)
      ∙ ap (λ b. cond b (x ∷ placed_before R y (in_order R (ys ++ back))) (y ∷ x ∷ in_order R (ys ++ back))) (All-head (λ z. is_greater (R z x) ≡ true) y ys above)

  dedup_is_fresh : (x : A) (xs : List A) → dedup_from (is_same R) x xs ≡ x ∷ fresh_behind R x xs
  unfolding fresh_behind
  dedup_is_fresh x [] = refl
  dedup_is_fresh x (y ∷ ys) =
      elim (is_equal (R y x)) as (λ b. cond b (dedup_from (is_same R) x ys) (x ∷ dedup_from (is_same R) y ys) ≡ x ∷ cond b (fresh_behind R x ys) (y ∷ fresh_behind R y ys)) [
        | true ↦ dedup_is_fresh x ys
        | false ↦ ap (λ zs. x ∷ zs) (dedup_is_fresh y ys)
      ]

  -- one value more is written, or isn't
  pub written_more : (unique : Bool) (last : Option A) (x : A) (later : List A)
      → all_written unique R last (x ∷ later) ≡ written_of unique R last x ++ all_written unique R (last_behind unique R last x) later
  unfolding fresh_behind
  written_more false last x later = refl
  written_more true None x later = dedup_is_fresh x later
  written_more true (Some kept) x later =
      elim (is_equal (R x kept)) as (λ b. cond b (fresh_behind R kept later) (x ∷ fresh_behind R x later) ≡ cond b [] (x ∷ []) ++ all_written true R (cond b (Some kept) (Some x)) later)
      [ true ↦ refl | false ↦ refl ]

  -- of none nothing is written
  pub written_none : (unique : Bool) (last : Option A) → all_written unique R last [] ≡ []
  unfolding fresh_behind
  written_none false last = refl
  written_none true None = refl
  written_none true (Some kept) = refl

  pub none_in_order : in_order R [] ≡ []
  unfolding in_order
  none_in_order = refl

module _ {A : Type 0} (R : A → A → Ordering) (o : IsTotalOrder R) where
  -- at first all of what is merged is to be written
  pub written_all : (unique : Bool) (xs : List A) → put_in_order unique R xs ≡ all_written unique R None (in_order R xs)
  written_all false xs = refl
  written_all true xs = sym (first_kept R o (in_order R xs) (Rises-in_order R o xs))

  -- the first value of a list, if it is below those of the lists before and above none of those after it, is the first of all
  pub head_out : (before behind : List (List A)) (x : A) (more : List A) → All (StartsAbove R x) before → All (StartsUpto R x) behind
      → in_order R (flat_map (ordered_part R) (before ++ (x ∷ more) ∷ behind)) ≡ x ∷ in_order R (flat_map (ordered_part R) before ++ (ordered_behind R x more ++ flat_map (ordered_part R) behind))
  head_out before behind x more above upto =
      let front : List A = flat_map (ordered_part R) before in
      let back : List A = ordered_behind R x more ++ flat_map (ordered_part R) behind in
      let all_above : All (λ y. is_greater (R y x) ≡ true) front =
      All-flat_map (λ y. is_greater (R y x) ≡ true) (ordered_part R) before (λ k d h. part_above R o x _ (above k d h)) in
      let all_upto : All (λ y. is_greater (R x y) ≡ false) back =
      All-append (λ y. is_greater (R x y) ≡ false) (ordered_behind R x more) (flat_map (ordered_part R) behind) (behind_upto R o x more)
      (All-flat_map (λ y. is_greater (R x y) ≡ false) (ordered_part R) behind (λ k d h. part_upto R o x _ (upto k d h))) in
      ap (in_order R) (flat_map-append (ordered_part R) before ((x ∷ more) ∷ behind)) ∙ first_out R x front back all_above all_upto

  -- and then come those that are left
  pub step_out : (before behind : List (List A)) (x : A) (more : List A) → All (StartsAbove R x) before → All (StartsUpto R x) behind → StartsUpto R x more
      → in_order R (flat_map (ordered_part R) (before ++ (x ∷ more) ∷ behind)) ≡ x ∷ in_order R (flat_map (ordered_part R) (before ++ more ∷ behind))
  step_out before behind x more above upto next =
      head_out before behind x more above upto
      ∙ ap (λ (part : List A). x ∷ in_order R (flat_map (ordered_part R) before ++ (part ++ flat_map (ordered_part R) behind))) (next_part R x more next)
      ∙ sym (ap (λ (xs : List A). x ∷ in_order R xs) (flat_map-append (ordered_part R) before (more ∷ behind)))
