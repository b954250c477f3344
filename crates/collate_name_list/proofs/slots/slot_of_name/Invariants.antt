use Rattle.collate_name_list.proofs.HashLemmas.{IsSearched, left_of}
use Rattle.collate_name_list.proofs.slots.slot_of_name.Given as goal

abbrev pub invariant-names : goal.invariant-names
invariant-names l = IsSearched l.hashes.seed l.slots l.name l.hash l.found

abbrev pub decreases-names : goal.decreases-names
decreases-names l = left_of l.found
