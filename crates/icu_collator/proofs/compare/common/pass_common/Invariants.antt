use Rattle.std.proofs.Common.{◌≤◌, ℕ, List}
use Rattle.std.specs.Iterator.{IsFinite, size}
use Rattle.icu_collator.specs.FlatOrders.{AreAlikeSoFar}
use Rattle.icu_collator.proofs.compare.common.pass_common.Given as goal

abbrev pub invariant-common : goal.invariant-common
invariant-common g l = record {
  left_can : g.I.Iterator.can_next l.left;
  left_ends : IsFinite (g.I.Iterator.remaining l.left);
  left_nearer : size (g.I.Iterator.remaining l.left) ≤ size (g.I.Iterator.remaining l.fn.left);
  right_can : g.J.Iterator.can_next l.right;
  right_ends : IsFinite (g.J.Iterator.remaining l.right);
  alike : (end : ℕ) (a b : List ℕ) → AreAlikeSoFar l.checked end l.numeric g.I.Iterator.next_gives g.J.Iterator.next_gives a b l.fn.left l.fn.right l.fn.left_class l.fn.right_class
      → AreAlikeSoFar l.checked end l.numeric g.I.Iterator.next_gives g.J.Iterator.next_gives a b l.left l.right l.class l.class;
}

abbrev pub decreases-common : goal.decreases-common
decreases-common g l = size (g.I.Iterator.remaining l.left)
