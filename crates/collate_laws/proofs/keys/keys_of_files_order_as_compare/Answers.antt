use Rattle.collate_laws.proofs.LawKeyLemmas.{keys_equal, keys_order}
use Rattle.collate_laws.proofs.keys.keys_of_files_order_as_compare.Goals as goal

pub returns : goal.returns
returns c = record {
  order = λ records options preferences collator x y accepted is plain scalars too. keys_order records options preferences collator accepted is plain x y scalars too;
  equal = λ records options preferences collator x y accepted is plain scalars too. keys_equal records options preferences collator accepted is plain x y scalars too;
}
