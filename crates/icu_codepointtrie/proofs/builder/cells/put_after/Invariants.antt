use Rattle.std.proofs.Common.{map}
use Rattle.icu_codepointtrie.specs.DataCells.{IsPutting}
use Rattle.icu_codepointtrie.proofs.builder.cells.put_after.Given as goal

abbrev pub invariant-loop-i : goal.invariant-loop-i
invariant-loop-i g l =
    IsPutting (map g.T.TrieValue.number l.values) l.first (map g.T.TrieValue.number l.fn.cells.items) (map g.T.TrieValue.number l.cells.items) l.slot l.i
