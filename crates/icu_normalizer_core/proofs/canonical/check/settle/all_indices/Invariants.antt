use Rattle.std.proofs.Common.{◌+◌, ◌*◌, ◌<◌, length}
use Rattle.std.specs.List.{All}
use Rattle.icu_normalizer_core.proofs.canonical.check.settle.all_indices.Given as goal

abbrev pub invariant-loop-index : goal.invariant-loop-index
invariant-loop-index l = All (λ index. 3 * index + 2 < length l.steps) l.indices.items
