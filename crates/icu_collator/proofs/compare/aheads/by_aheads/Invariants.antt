use Rattle.std.proofs.Common.{ℕ, List}
use Rattle.std.specs.Iterator.{IsFinite}
use Rattle.icu_normalizer_core.specs.Iter.{Spells}
use Rattle.icu_collator.proofs.orders.AheadOrderLemmas.{AreMet}
use Rattle.icu_collator.proofs.compare.aheads.by_aheads.Given as goal

abbrev pub invariant-loop-turn : goal.invariant-loop-turn
invariant-loop-turn g l = record {
  left_can : g.I.Iterator.can_next l.left.chars;
  left_ends : IsFinite (g.I.Iterator.remaining l.left.chars);
  right_can : g.J.Iterator.can_next l.right.chars;
  right_ends : IsFinite (g.J.Iterator.remaining l.right.chars);
  met : (a b : List ℕ) → Spells g.I.Iterator.next_gives l.fn.left a → Spells g.J.Iterator.next_gives l.fn.right b
      → AreMet l.checked l.end l.numeric g.I.Iterator.next_gives g.J.Iterator.next_gives a b l.left.held l.left.chars l.left.read l.right.held l.right.chars l.right.read;
}
