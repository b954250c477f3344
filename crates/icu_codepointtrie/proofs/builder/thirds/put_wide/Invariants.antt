use Rattle.icu_codepointtrie.specs.IndexBlocks.{HasWide}
use Rattle.icu_codepointtrie.proofs.builder.thirds.put_wide.Given as goal

abbrev pub invariant-loop-number : goal.invariant-loop-number
invariant-loop-number l = HasWide l.slots l.first l.fn.cells.items l.cells.items l.number
