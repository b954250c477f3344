use Rattle.std.proofs.Common.{ℕ, ◌+◌, length}
use Rattle.icu_collections_sets.proofs.edits.OperationLemmas.{Merging}
use Rattle.icu_collections_sets.proofs.codepointinvlist.operation.combine.Given as goal

abbrev pub invariant-loop-edge : goal.invariant-loop-edge
invariant-loop-edge l =
    (bound : ℕ) × Merging l.operation l.first l.second l.first_rest l.in_first l.second_rest l.in_second l.edges.items l.held bound

abbrev pub decreases-loop-edge : goal.decreases-loop-edge
decreases-loop-edge l = length l.first_rest + length l.second_rest
