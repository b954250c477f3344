use Rattle.collate_laws.proofs.FileLemmas.{key_said, order_said}
use Rattle.collate_laws.proofs.files.collators_answer_as_the_file_says.Goals as goal

pub returns : goal.returns
returns c = record {
  order = λ limits file options preferences collator borrowed x y accepted is source same scalars too. order_said file options preferences limits accepted collator borrowed is source same x y scalars too;
  key = λ limits file options preferences collator borrowed x accepted is source same scalars. key_said file options preferences limits accepted collator borrowed is source same x scalars;
}
