use Rattle.std.proofs.Common.{◌≤◌, ℕ, List}
use Rattle.std.specs.Iterator.{size}
use Rattle.icu_collator_core.specs.FlatSteps.{IsReadUpTo}
use Rattle.icu_collator.proofs.orders.OrderByFlatLemmas.{IsReadUncounted}
use Rattle.icu_collator.proofs.compare.flat.next_primary.Given as goal

abbrev pub invariant-reading : goal.invariant-reading
invariant-reading g l = record {
  can : (goal.iterator-reading g).can_next l.chars;
  finite : (goal.iterator-reading g).is_finite l.chars;
  read : (text items : List ℕ) → IsReadUpTo l.checked l.numeric g.I.Iterator.next_gives text l.fn.chars l.fn.class items
      → IsReadUncounted l.checked g.I.Iterator.next_gives l.end l.numeric text items l.chars l.class;
  fewer : size (g.I.Iterator.remaining l.chars) ≤ size (g.I.Iterator.remaining l.fn.chars);
}
