use Rattle.std.proofs.Common.{◌≡◌, ◌≤◌, drop, length, take}
use Rattle.collate_name_list.specs.StoredNames.{rekeyed}
use Rattle.collate_index.specs.Keys.{catalogue}
use Rattle.collate_index.proofs.reloading.ReloadLemmas.{AreSoFar}
use Rattle.collate_index.proofs.reload.keys_by.Given as goal

abbrev pub invariant-loop-name : goal.invariant-loop-name
invariant-loop-name l = record {
  so_far : AreSoFar (catalogue l.fn.before l.fn.asked l.fn.names) l.fn.records.lines (rekeyed l.keys.items (take (length l.keys.items) l.fn.names)) l.name-iterator l.made;
  left : l.name-iterator ≡ drop (length l.keys.items) l.fn.names;
  upto : length l.keys.items ≤ length l.fn.names;
  kept : l.made ≡ 0 → rekeyed l.keys.items (take (length l.keys.items) l.fn.names) ≡ take (length l.keys.items) l.fn.names;
  changes : l.changes ≡ record { before = l.fn.before.lines; after = l.fn.records.lines };
}
