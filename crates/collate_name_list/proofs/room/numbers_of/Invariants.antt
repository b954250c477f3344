use Rattle.std.proofs.Common.{◌≡◌, ◌≤◌, ◌++◌, drop}
use Rattle.collate_name_list.specs.Room.{numbers_from}
use Rattle.collate_name_list.proofs.room.numbers_of.Given as goal

abbrev pub invariant-loop-slot : goal.invariant-loop-slot
invariant-loop-slot l = record {
  numbered : l.numbers.items ++ numbers_from l.number (drop l.slot-index l.slots) ≡ numbers_from 0 l.slots;
  upto : l.number ≤ l.slot-index;
}
