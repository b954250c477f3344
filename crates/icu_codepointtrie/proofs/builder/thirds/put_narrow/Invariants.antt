use Rattle.std.proofs.Common.{length}
use Rattle.icu_codepointtrie.specs.DataCells.{IsPutting}
use Rattle.icu_codepointtrie.proofs.builder.thirds.put_narrow.Given as goal

abbrev pub invariant-loop-i : goal.invariant-loop-i
invariant-loop-i l = IsPutting l.slots l.first l.fn.cells.items l.cells.items (length l.fn.cells.items) l.i
