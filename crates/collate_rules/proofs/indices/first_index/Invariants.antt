use Rattle.std.proofs.Common.{◌-◌, ◌≤◌, ◌<◌}
use Rattle.collate_rules.proofs.given.GivenIndexLemmas.{NotBelow}
use Rattle.collate_rules.proofs.indices.first_index.Given as goal

abbrev pub invariant-loop-low : goal.invariant-loop-low
invariant-loop-low g l = record {
  order : l.low ≤ l.high;
  inside : l.high < l.fn.count;
  here : g.T.IndexTest.Holds l.test l.high;
  below : NotBelow (g.T.IndexTest.Holds l.test) l.low;
}

abbrev pub decreases-loop-low : goal.decreases-loop-low
decreases-loop-low g l = l.high - l.low
