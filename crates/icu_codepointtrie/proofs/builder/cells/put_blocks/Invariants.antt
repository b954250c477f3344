use Rattle.std.proofs.Common.{◌≡◌, ℕ, ◌*◌, ◌<◌, length, map}
use Rattle.std.specs.Prelude.{slice_index}
use Rattle.icu_codepointtrie.specs.DataCells.{Stands, Grows}
use Rattle.icu_codepointtrie.proofs.builder.cells.put_blocks.Given as goal

abbrev pub invariant-loop-block : goal.invariant-loop-block
invariant-loop-block g l = record {
  count : length l.slots.items ≡ l.block-index;
  stand : (i : ℕ) → i < l.block-index → Stands (map g.T.TrieValue.number l.values) (slice_index l.blocks i * l.width) (map g.T.TrieValue.number l.cells.items) (slice_index l.slots.items i) l.width;
  grown : Grows (map g.T.TrieValue.number l.fn.cells.items) (map g.T.TrieValue.number l.cells.items) (l.width * l.block-index);
}
