use Rattle.collate_name_list.proofs.RekeyLemmas.{AreChangedTo}
use Rattle.collate_name_list.proofs.keys.swap_keys.Given as goal

abbrev pub invariant-slots : goal.invariant-slots
invariant-slots l = AreChangedTo l.slot l.fn.slots.items l.slots.items l.fn.keys.items l.keys.items
