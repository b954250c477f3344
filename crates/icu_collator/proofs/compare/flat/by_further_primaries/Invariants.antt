use Rattle.std.proofs.Common.{ℕ, List}
use Rattle.std.specs.Prelude.{All}
use Rattle.std.specs.Char.{IsScalar}
use Rattle.std.specs.Iterator.{IsFinite, size}
use Rattle.icu_collator.specs.FlatOrders.{AreAlikeSoFar}
use Rattle.icu_collator.proofs.compare.flat.by_further_primaries.Given as goal

abbrev pub invariant-primaries : goal.invariant-primaries
invariant-primaries g l = record {
  left_can : g.I.Iterator.can_next l.left;
  left_ends : IsFinite (g.I.Iterator.remaining l.left);
  right_can : g.J.Iterator.can_next l.right;
  right_ends : IsFinite (g.J.Iterator.remaining l.right);
  alike : (a b : List ℕ) → AreAlikeSoFar l.checked l.end l.numeric g.I.Iterator.next_gives g.J.Iterator.next_gives a b l.fn.left l.fn.right l.fn.left_class l.fn.right_class
      → All IsScalar a → All IsScalar b
      → AreAlikeSoFar l.checked l.end l.numeric g.I.Iterator.next_gives g.J.Iterator.next_gives a b l.left l.right l.left_class l.right_class;
}

abbrev pub decreases-primaries : goal.decreases-primaries
decreases-primaries g l = size (g.I.Iterator.remaining l.left)
