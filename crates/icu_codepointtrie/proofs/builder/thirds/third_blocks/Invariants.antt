use Rattle.std.proofs.Common.{◌≡◌, ℕ, ◌-◌, ◌*◌, ◌<◌, ◌≤◌, length}
use Rattle.std.specs.Prelude.{slice_index}
use Rattle.icu_codepointtrie.specs.IndexBlocks.{Gives}
use Rattle.icu_codepointtrie.proofs.builder.thirds.third_blocks.Given as goal

abbrev pub invariant-loop-block : goal.invariant-loop-block
invariant-loop-block l = record {
  count : length l.entries.items ≡ l.block-index;
  gives : (n : ℕ) → n < l.block-index → Gives l.start l.cells.items (slice_index l.entries.items n) l.slots ((slice_index l.kept n - l.first) * 32);
  few : length l.cells.items ≤ 36 * l.block-index;
}
