use Rattle.std.proofs.Common.{◌≡◌}
use Rattle.collate_name_list.specs.Keys.{settled_by_key}
use Rattle.collate_name_list.specs.Slots.{AreFronted, slots_of}
use Rattle.collate_name_list.proofs.keys.ordered.Given as goal

abbrev pub invariant-slots : goal.invariant-slots
invariant-slots l = record {
  order : slots_of l.ranked ≡ settled_by_key l.slots l.keys l.slot;
  fronts : AreFronted l.slots l.ranked;
}
