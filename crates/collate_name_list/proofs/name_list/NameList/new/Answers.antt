use Rattle.collate_name_list.proofs.KeptLemmas.{kept_none}
use Rattle.collate_name_list.proofs.name_list.NameList.new.Goals as goal

pub invariant_of-result : goal.invariant_of-result
invariant_of-result c =
    kept_none (record { alloc = c.args.alloc; slots = c.new.result; by_key = c.new-2.result; hashes = c.new-3.result }) c.new.ensures.items c.new-2.ensures c.new-3.ensures.hashes
