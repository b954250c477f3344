use Rattle.icu_codepointtrie.specs.Slots.{HasFastCells}
use Rattle.icu_codepointtrie.proofs.trie.has_fast_cells.Given as goal

abbrev pub invariant-loop-block : goal.invariant-loop-block
invariant-loop-block l = HasFastCells l.index l.block l.count
