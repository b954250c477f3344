use Rattle.collate_laws.proofs.FileNumberLemmas.{equal_key, lower_key}
use Rattle.collate_laws.proofs.numbers.number_keys_of_files_order_by_value.Goals as goal

pub returns : goal.returns
returns c = record {
  lower = λ records options preferences collator x r s y accepted alone is plain numeric none before behind first second below.
      lower_key records options preferences collator accepted is numeric x r s y before behind first second plain alone none below;
  equal = λ records options preferences collator x r s y accepted apart is plain numeric below before behind first second same.
      equal_key records options preferences collator accepted is numeric x r s y before behind first second plain apart below same;
}
