use Rattle.std.proofs.Common.{◌-◌, ◌<◌, ◌≤◌, true, false}
use Rattle.icu_normalizer_core.proofs.canonical.search.first_past.Given as goal

abbrev pub invariant-loop-low : goal.invariant-loop-low
invariant-loop-low g l = record {
  order : l.low ≤ l.high;
  bound : l.high ≤ l.fn.count;
  before : 0 < l.low → goal.F-post g l.is_before (l.low - 1) true;
  past : l.high < l.fn.count → goal.F-post g l.is_before l.high false;
}

abbrev pub decreases-loop-low : goal.decreases-loop-low
decreases-loop-low g l = l.high - l.low
