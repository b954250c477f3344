use Rattle.std.proofs.Common.{◌<◌, length}
use Rattle.std.specs.List.{All}
use Rattle.icu_normalizer_core.proofs.builder.mappings.Mappings.all_indices.Given as goal

abbrev pub invariant-loop-index : goal.invariant-loop-index
invariant-loop-index l = All (λ index. index < length l.self.given.now) l.indices.items
