use Rattle.std.proofs.Common.{◌-◌, ◌<◌, ◌≤◌, length, slice_index}
use Rattle.collate_lists.specs.Starts.{ranks_of}
use Rattle.collate_lists.proofs.starts.Starts.around.Given as goal

abbrev pub invariant-lists : goal.invariant-lists
invariant-lists l = (l.low < l.high) × (l.high ≤ length (ranks_of l.self)) × (slice_index (ranks_of l.self) l.low ≤ l.rank) × (l.high < length (ranks_of l.self) → l.rank < slice_index (ranks_of l.self) l.high)

abbrev pub decreases-lists : goal.decreases-lists
decreases-lists l = l.high - l.low
