use Rattle.collate_laws.proofs.LawKeyLemmas.{keys_in_order}
use Rattle.collate_laws.proofs.keys.collators_of_files_have_keys_in_order.Goals as goal

pub returns : goal.returns
returns c = λ records options preferences collator borrowed is same_source same_options plain. keys_in_order records options preferences collator is borrowed same_source same_options plain
