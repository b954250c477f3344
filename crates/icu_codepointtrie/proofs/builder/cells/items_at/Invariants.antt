use Rattle.std.proofs.Common.{◌≡◌, map, take}
use Rattle.std.specs.Prelude.{slice_index}
use Rattle.icu_codepointtrie.proofs.builder.cells.items_at.Given as goal

abbrev pub invariant-loop-slot : goal.invariant-loop-slot
invariant-loop-slot l = l.each.items ≡ map (slice_index l.items) (take l.slot-index l.slots)
