use Rattle.collate_laws.proofs.FileNumberLemmas.{equal, higher, lower}
use Rattle.collate_laws.proofs.numbers.numbers_of_files_order_by_value.Goals as goal

pub returns : goal.returns
returns c = record {
  lower = λ records options preferences collator x r s y accepted alone is numeric none before behind first second below.
      lower records options preferences collator accepted is numeric x r s y before behind first second alone none below;
  higher = λ records options preferences collator x r s y accepted alone is numeric none before behind first second below.
      higher records options preferences collator accepted is numeric x r s y before behind first second alone none below;
  equal = λ records options preferences collator x r s y accepted apart is numeric below before behind first second same.
      equal records options preferences collator accepted is numeric x r s y before behind first second apart below same;
}
