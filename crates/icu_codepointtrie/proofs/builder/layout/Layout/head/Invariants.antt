use Rattle.std.proofs.Common.{◌≡◌, ℕ, ◌<◌, length}
use Rattle.std.specs.Prelude.{slice_index}
use Rattle.icu_codepointtrie.specs.Layouts.{index_cell}
use Rattle.icu_codepointtrie.proofs.builder.layout.Layout.head.Given as goal

abbrev pub invariant-loop-slot : goal.invariant-loop-slot
invariant-loop-slot l = (length l.head.items ≡ l.slot) × ((k : ℕ) → k < l.slot → slice_index l.head.items k ≡ index_cell l.self k)
