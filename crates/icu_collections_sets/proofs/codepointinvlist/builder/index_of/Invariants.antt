use Rattle.std.proofs.Common.{ℕ, ◌<◌, ◌≤◌, ◌-◌, length, slice_index_or}
use Rattle.icu_collections_sets.proofs.codepointinvlist.builder.index_of.Given as goal

abbrev pub invariant-loop-low : goal.invariant-loop-low
invariant-loop-low l =
    (l.low ≤ l.high) × (l.high ≤ length l.edges) × ((k d : ℕ) → k < l.low → slice_index_or l.edges k d < l.bound)
    × ((k d : ℕ) → l.high ≤ k → k < length l.edges → l.bound ≤ slice_index_or l.edges k d)

abbrev pub decreases-loop-low : goal.decreases-loop-low
decreases-loop-low l = l.high - l.low
