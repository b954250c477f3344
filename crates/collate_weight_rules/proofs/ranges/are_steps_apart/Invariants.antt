use Rattle.std.proofs.Common.{ℕ, ◌+◌, ◌-◌, ◌<◌, ◌≤◌, length, get_or}
use Rattle.collate_weight_rules.proofs.ranges.are_steps_apart.Given as goal

abbrev pub invariant-loop-index : goal.invariant-loop-index
invariant-loop-index l = record {
  within : l.index ≤ length l.spans;
  apart : (k : ℕ) (d : ℕ × ℕ) → k < l.index → (get_or l.spans k d).1 < (get_or l.spans (k + 1) d).0;
}

abbrev pub decreases-loop-index : goal.decreases-loop-index
decreases-loop-index l = length l.spans - l.index
