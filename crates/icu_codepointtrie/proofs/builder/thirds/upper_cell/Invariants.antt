use Rattle.std.proofs.Common.{◌≡◌, ◌+◌, ◌/◌, ◌^◌, ◌<◌}
use Rattle.std.specs.Prelude.{slice_index}
use Rattle.icu_codepointtrie.specs.IndexBlocks.{joined}
use Rattle.icu_codepointtrie.proofs.builder.thirds.upper_cell.Given as goal

abbrev pub invariant-loop-number : goal.invariant-loop-number
invariant-loop-number l = (l.cell ≡ joined (λ i. slice_index l.slots (l.first + i) / 2 ^ 16) l.number) × (l.cell < 4 ^ l.number)
