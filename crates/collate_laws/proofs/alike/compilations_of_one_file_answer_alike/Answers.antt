use Rattle.collate_laws.proofs.LawAlikeLemmas.{same_records_alike}
use Rattle.collate_laws.proofs.alike.compilations_of_one_file_answer_alike.Goals as goal

pub returns : goal.returns
returns c = λ records options preferences a b accepted first second. same_records_alike records options preferences a b accepted first second
