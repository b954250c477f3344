use Rattle.std.proofs.Common.{◌≡◌, ◌≤◌, ◌-◌, ℕ, Option, drop, filter_map, length}
use Rattle.std.specs.Cmp.Lexicographic.{slice_cmp}
use Rattle.std.specs.Ordering.{nat_cmp}
use Rattle.icu_collator.specs.LevelLists.{counted_list, counted_of}
use Rattle.icu_collator.specs.Shifted.{Counted}
use Rattle.icu_collator.specs.declared.levels.counted_elements.CountedElement.{CountedElement}
use Rattle.icu_collator.proofs.levels.turns.order_given.Given as goal

abbrev pub invariant-weights : goal.invariant-weights
invariant-weights g l = record {
  left_within : l.left_index ≤ length l.left;
  right_within : l.right_index ≤ length l.right;
  same : (at : Counted → Option ℕ) → ((e : CountedElement) (w : Option ℕ) → goal.F-post g l.given e w → w ≡ at (counted_of e))
      → slice_cmp nat_cmp (filter_map at (counted_list l.left_end l.left)) (filter_map at (counted_list l.right_end l.right))
      ≡ slice_cmp nat_cmp (filter_map at (counted_list l.left_end (drop l.left_index l.left))) (filter_map at (counted_list l.right_end (drop l.right_index l.right)));
}

abbrev pub decreases-weights : goal.decreases-weights
decreases-weights g l = length l.left - l.left_index
