-- a merge on its way: what is left of each list, what was written, and what is to come
use Rattle.std.proofs.Common.{◌≡◌, ℕ, suc, ◌+◌, ◌-◌, ◌<◌, Bool, true, false, Option, None, List, [], ◌∷◌, ◌++◌, ⊎_elim, drop, flat_map, get_or, length, take, refl, sym, ap, ◌∙◌, subst, arith, append_assoc, length-append}
use Rattle.std.specs.Prelude.{set}
use Rattle.std.specs.List.{All}
use Rattle.std.specs.Cmp.{IsTotalOrder}
use Rattle.std.specs.declared.cmp.Ordering.{Ordering}
use Rattle.std.proofs.lemmas.Bool.{cases_eq}
use Rattle.std.proofs.lemmas.List.{append-nil, get_or-set_other, get_or-set_same, length-set, set-get_or, set_split}
use Rattle.collate_keyed_lines.specs.KeyedLines.{AreInOrder, IsFirstUnordered}
use Rattle.collate_lists.specs.Names.{in_order, is_greater}
use Rattle.collate_merge.specs.Merged.{StartsAbove, StartsUpto, merged, ordered_behind, ordered_part, ordered_parts_merged, put_in_order}
use Rattle.collate_merge.specs.Written.{all_written, last_behind, written_of}
use Rattle.collate_merge.proofs.MergedLemmas.{head_out, none_in_order, step_out, written_all, written_more, written_none}
use Rattle.collate_merge.proofs.OrderedPartLemmas.{next_part, part_ends, part_in_order, part_unordered}

-- values of a list have passed, which are in order, and these are left
pub record HasPassed {A : Type 0} (R : A → A → Ordering) (part left : List A) : Type 0 where
  pub passed : List A
  pub part_is : part ≡ passed ++ left
  pub ordered : ordered_part R part ≡ passed ++ ordered_part R left

-- these lists are merged: of each this is left, last was written last, and this was written
pub record Merging {A : Type 0} (unique : Bool) (R : A → A → Ordering) (parts lefts : List (List A)) (last : Option A) (written : List A) : Type 0 where
  pub long : length lefts ≡ length parts
  pub each : (k : ℕ) → k < length parts → HasPassed R (get_or parts k []) (get_or lefts k [])
  pub made : ordered_parts_merged unique R parts ≡ written ++ all_written unique R last (in_order R (flat_map (ordered_part R) lefts))

module _ {A : Type 0} (R : A → A → Ordering) where
  -- one value more has passed
  passed_more : (part left more : List A) (x : A) → HasPassed R part left → left ≡ x ∷ more → StartsUpto R x more → HasPassed R part more
  passed_more part left more x h is next = record {
    passed = h.passed ++ x ∷ [];
    part_is = h.part_is ∙ ap (λ (xs : List A). h.passed ++ xs) is ∙ sym (append_assoc h.passed (x ∷ []) more);
    ordered =
        h.ordered ∙ ap (λ (xs : List A). h.passed ++ ordered_part R xs) is
        ∙ ap (λ (xs : List A). h.passed ++ x ∷ xs) (next_part R x more next) ∙ sym (append_assoc h.passed (x ∷ []) (ordered_part R more));
  }

  -- all have passed
  pub all_passed : (part left : List A) → HasPassed R part left → left ≡ [] → ordered_part R part ≡ part
  all_passed part left h none =
      h.ordered ∙ ap (λ (xs : List A). h.passed ++ ordered_part R xs) none ∙ sym (h.part_is ∙ ap (λ (xs : List A). h.passed ++ xs) none)

  -- a list that is its ordered part is in order
  pub whole_in_order : (part : List A) → ordered_part R part ≡ part → AreInOrder false R part (length part)
  whole_in_order part is = subst (λ (xs : List A). AreInOrder false R part (length xs)) is (part_in_order R part)

  -- one that is below x, which has just passed, is the first that is below the one before it
  pub below_passed : (part left more later : List A) (x y : A) (line : ℕ) → HasPassed R part left → left ≡ x ∷ more → more ≡ y ∷ later → is_greater (R x y) ≡ true
      → line + length more ≡ length part + 1 → IsFirstUnordered false R part (line - 1)
  below_passed part left more later x y line h left_is more_is below counted =
      let is : left ≡ x ∷ y ∷ later = left_is ∙ ap (λ (xs : List A). x ∷ xs) more_is in
      let ends : ordered_part R part ≡ h.passed ++ x ∷ [] =
      h.ordered ∙ ap (λ (xs : List A). h.passed ++ ordered_part R xs) is ∙ ap (λ (xs : List A). h.passed ++ x ∷ xs) (part_ends R x y later below) in
      let long : length part ≡ length h.passed + length left = ap length h.part_is ∙ length-append h.passed left in
      let left_long : length left ≡ suc (length more) = ap length left_is in
      let more_long : length more ≡ suc (length later) = ap length more_is in
      let short : length (ordered_part R part) ≡ length h.passed + 1 = ap length ends ∙ length-append h.passed (x ∷ []) in
      part_unordered R part (line - 1) (omega arith) (omega arith)

  none_left : (lefts : List (List A)) → ((k : ℕ) → k < length lefts → get_or lefts k [] ≡ []) → flat_map (ordered_part R) lefts ≡ []
  none_left [] h = refl
  none_left (left ∷ lefts) h =
      ap (λ (xs : List A). ordered_part R xs ++ flat_map (ordered_part R) lefts) (h 0 (omega arith)) ∙ none_left lefts (λ k l. h (suc k) (omega arith))

  all_whole : (parts : List (List A)) → ((k : ℕ) → k < length parts → ordered_part R (get_or parts k []) ≡ get_or parts k []) → flat_map (ordered_part R) parts ≡ flat_map (λ part. part) parts
  all_whole [] h = refl
  all_whole (part ∷ parts) h =
      ap (λ (xs : List A). xs ++ flat_map (ordered_part R) parts) (h 0 (omega arith))
      ∙ ap (λ (xs : List A). part ++ xs) (all_whole parts (λ k l. h (suc k) (omega arith)))

module _ {A : Type 0} (R : A → A → Ordering) (o : IsTotalOrder R) (unique : Bool) (parts : List (List A)) where
  pub begun : Merging unique R parts parts None []
  begun = record {
    long = refl;
    each = λ k h. record { passed = []; part_is = refl; ordered = refl };
    made = written_all R o unique (flat_map (ordered_part R) parts);
  }

  module _ (lefts : List (List A)) (last : Option A) (written : List A) (h : Merging unique R parts lefts last written) where
    -- nothing is left: all was written, and each list was in order
    pub ended_whole : ((k : ℕ) → k < length parts → get_or lefts k [] ≡ []) → (k : ℕ) → k < length parts → ordered_part R (get_or parts k []) ≡ get_or parts k []
    ended_whole none k l = all_passed R (get_or parts k []) (get_or lefts k []) (h.each k l) (none k l)

    pub ended_ordered : ((k : ℕ) → k < length parts → get_or lefts k [] ≡ []) → ordered_parts_merged unique R parts ≡ written
    ended_ordered none =
        h.made
        ∙ ap (λ (xs : List A). written ++ all_written unique R last (in_order R xs)) (none_left R lefts (λ k l. none k (omega (arith, h.long, l))))
        ∙ ap (λ (xs : List A). written ++ all_written unique R last xs) (none_in_order R)
        ∙ ap (λ (xs : List A). written ++ xs) (written_none R unique last)
        ∙ append-nil written

    pub ended : ((k : ℕ) → k < length parts → get_or lefts k [] ≡ []) → merged unique R parts ≡ written
    ended none = sym (ap (put_in_order unique R) (all_whole R parts (ended_whole none))) ∙ ended_ordered none

    module _ (index : ℕ) (within : index < length parts) (x : A) (more : List A) (left_is : get_or lefts index [] ≡ x ∷ more)
        (above : All (StartsAbove R x) (take index lefts)) (upto : All (StartsUpto R x) (drop (suc index) lefts)) where
      split : lefts ≡ take index lefts ++ (x ∷ more) ∷ drop (suc index) lefts
      split = sym (set-get_or lefts index []) ∙ set_split lefts index (get_or lefts index []) (omega (arith, h.long)) ∙ ap (λ (xs : List A). take index lefts ++ xs ∷ drop (suc index) lefts) left_is

      -- what is written of x stands after what was written
      pub next_written : (others : List A) × (ordered_parts_merged unique R parts ≡ written ++ (written_of unique R last x ++ others))
      next_written =
          let rest : List A = in_order R (flat_map (ordered_part R) (take index lefts) ++ (ordered_behind R x more ++ flat_map (ordered_part R) (drop (suc index) lefts))) in (
            all_written unique R (last_behind unique R last x) rest,
            h.made
                ∙ ap (λ (ls : List (List A)). written ++ all_written unique R last (in_order R (flat_map (ordered_part R) ls))) split
                ∙ ap (λ (xs : List A). written ++ all_written unique R last xs) (head_out R o (take index lefts) (drop (suc index) lefts) x more above upto)
                ∙ ap (λ (xs : List A). written ++ xs) (written_more R unique last x rest),
          )

      -- and the merge goes on with what is left behind x
      pub went_on : StartsUpto R x more → Merging unique R parts (set lefts index more) (last_behind unique R last x) (written ++ written_of unique R last x)
      went_on next =
          let within' : index < length lefts = omega (arith, h.long, within) in
          let rest : List A = in_order R (flat_map (ordered_part R) (take index lefts ++ more ∷ drop (suc index) lefts)) in
          record {
            long = length-set lefts index more ∙ h.long;
            each = λ k l.
                ⊎_elim
                (λ (same : k ≡ index).
                let now : get_or (set lefts index more) k [] ≡ more = ap (λ (n : ℕ). get_or (set lefts index more) n []) same ∙ get_or-set_same lefts index more [] within' in
                subst (HasPassed R (get_or parts k [])) (sym now)
                (passed_more R (get_or parts k []) (get_or lefts k []) more x (h.each k l) (ap (λ (n : ℕ). get_or lefts n []) same ∙ left_is) next))
                (λ other. subst (HasPassed R (get_or parts k [])) (sym (get_or-set_other lefts index k more [] other)) (h.each k l))
                (cases_eq k index);
            made =
                h.made
                ∙ ap (λ (ls : List (List A)). written ++ all_written unique R last (in_order R (flat_map (ordered_part R) ls))) split
                ∙ ap (λ (xs : List A). written ++ all_written unique R last xs) (step_out R o (take index lefts) (drop (suc index) lefts) x more above upto next)
                ∙ ap (λ (xs : List A). written ++ xs) (written_more R unique last x rest)
                ∙ sym (append_assoc written (written_of unique R last x) (all_written unique R (last_behind unique R last x) rest))
                ∙ sym (ap (λ (ls : List (List A)). (written ++ written_of unique R last x) ++ all_written unique R (last_behind unique R last x) (in_order R (flat_map (ordered_part R) ls)))
                (set_split lefts index more within'));
          }
