use Rattle.collate_keyed_lines.specs.KeyedLines.{AreInOrder, turned}
use Rattle.collate_keyed_lines.specs.Slots.{slot_order}
use Rattle.collate_keyed_lines.proofs.ordering.first_unordered.Given as goal

abbrev pub invariant-loop-index : goal.invariant-loop-index
invariant-loop-index l = AreInOrder l.unique (turned l.direction (slot_order l.bytes l.bounds)) l.slots l.index
