use Rattle.std.proofs.Common.{[], map}
use Rattle.icu_codepointtrie.specs.DataCells.{IsPutting}
use Rattle.icu_codepointtrie.proofs.builder.layout.put_first_blocks.Given as goal

abbrev pub invariant-loop-slot : goal.invariant-loop-slot
invariant-loop-slot g l = IsPutting (map g.T.TrieValue.number l.values) 0 [] (map g.T.TrieValue.number l.cells.items) 0 l.slot
