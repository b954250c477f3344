use Rattle.std.proofs.Common.{◌≡◌, ◌≤◌, ℕ, false, length, List}
use Rattle.std.specs.Prelude.{All}
use Rattle.std.specs.Char.{IsScalar}
use Rattle.std.specs.Iterator.{IsFinite}
use Rattle.icu_normalizer_core.specs.Iter.{Spells}
use Rattle.icu_collator_core.specs.Stretched.{settled_in}
use Rattle.icu_collator.specs.StretchedOrders.{AreMetAlike}
use Rattle.icu_collator.proofs.compare.stretched.race.Given as goal

abbrev pub invariant-loop-turn : goal.invariant-loop-turn
invariant-loop-turn g l = record {
  left_met : l.left_met ≤ length (settled_in l.lefts);
  left_can : l.lefts.is_ended ≡ false → g.I.Iterator.can_next l.left;
  left_ends : l.lefts.is_ended ≡ false → IsFinite (g.I.Iterator.remaining l.left);
  right_met : l.right_met ≤ length (settled_in l.rights);
  right_can : l.rights.is_ended ≡ false → g.J.Iterator.can_next l.right;
  right_ends : l.rights.is_ended ≡ false → IsFinite (g.J.Iterator.remaining l.right);
  alike : (a b : List ℕ) → All IsScalar a → All IsScalar b → Spells g.I.Iterator.next_gives l.fn.left a → Spells g.J.Iterator.next_gives l.fn.right b
      → AreMetAlike l.checked l.numeric l.end g.I.Iterator.next_gives g.J.Iterator.next_gives a b l.left l.right l.lefts l.rights l.left_met l.right_met;
}
