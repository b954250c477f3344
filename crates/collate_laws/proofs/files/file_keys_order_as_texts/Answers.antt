use Rattle.collate_laws.proofs.FileLemmas.{file_keys_equal, file_keys_order}
use Rattle.collate_laws.proofs.files.file_keys_order_as_texts.Goals as goal

pub returns : goal.returns
returns c = record {
  order = λ limits file options preferences x y accepted plain scalars too. file_keys_order file options preferences limits accepted plain x y scalars too;
  equal = λ limits file options preferences x y accepted plain scalars too. file_keys_equal file options preferences limits accepted plain x y scalars too;
}
