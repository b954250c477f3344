use Rattle.collate_laws.proofs.LawAlikeLemmas.{moved_alike}
use Rattle.collate_laws.proofs.LawFormLemmas.{moved_canonical_alike, moved_compatibility_alike}
use Rattle.collate_laws.proofs.alike.files_in_another_order_answer_alike.Goals as goal

pub returns : goal.returns
returns c = record {
  collators = λ limits file moved options preferences a b accepted also lines first second. moved_alike limits file moved options preferences a b accepted also lines first second;
  canonical = λ limits file moved a b accepted also lines first second. moved_canonical_alike limits file moved accepted lines a b also first second;
  compatibility = λ limits file moved a b accepted lines first second. moved_compatibility_alike limits file moved accepted lines a b first second;
}
