use Rattle.std.proofs.Common.{◌≡◌, take}
use Rattle.std.specs.List.{filter}
use Rattle.collate_lists.specs.Windows.{shows}
use Rattle.collate_name_list.specs.Keys.{is_at_kept}
use Rattle.collate_name_list.proofs.keys.kept_slots.Given as goal

abbrev pub invariant-ranks : goal.invariant-ranks
invariant-ranks l = record {
  kept : l.ranked ≡ filter (is_at_kept l.keys) (take l.rank l.by_key);
  shown : shows l.by_key l.window.start l.window.slots.now;
}
