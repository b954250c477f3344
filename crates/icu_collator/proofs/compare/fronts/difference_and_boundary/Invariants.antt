use Rattle.std.proofs.Common.{ℕ, List}
use Rattle.std.specs.Iterator.{IsFinite, size}
use Rattle.icu_normalizer_core.specs.Iter.{Spells}
use Rattle.icu_collator.specs.CommonBoundaries.{BeginAt}
use Rattle.icu_collator.proofs.boundaries.CommonBoundaryLemmas.{AgreeFrom}
use Rattle.icu_collator.proofs.compare.fronts.difference_and_boundary.Given as goal

abbrev pub invariant-common : goal.invariant-common
invariant-common g l = record {
  left_can : g.I.Iterator.can_next l.left;
  left_ends : IsFinite (g.I.Iterator.remaining l.left);
  right_can : g.J.Iterator.can_next l.right;
  right_ends : IsFinite (g.J.Iterator.remaining l.right);
  agree : (a b : List ℕ) → Spells g.I.Iterator.next_gives l.fn.left a → Spells g.J.Iterator.next_gives l.fn.right b
      → AgreeFrom g.I.Iterator.next_gives g.J.Iterator.next_gives a b l.common l.left l.right;
  boundary : (a b : List ℕ) → Spells g.I.Iterator.next_gives l.fn.left a → Spells g.J.Iterator.next_gives l.fn.right b
      → BeginAt l.checked g.I.Iterator.next_gives g.J.Iterator.next_gives a b l.boundary.index l.boundary.left l.boundary.right;
  kept_left_can : g.I.Iterator.can_next l.boundary.left;
  kept_left_ends : IsFinite (g.I.Iterator.remaining l.boundary.left);
  kept_right_can : g.J.Iterator.can_next l.boundary.right;
  kept_right_ends : IsFinite (g.J.Iterator.remaining l.boundary.right);
}

abbrev pub decreases-common : goal.decreases-common
decreases-common g l = size (g.I.Iterator.remaining l.left)
