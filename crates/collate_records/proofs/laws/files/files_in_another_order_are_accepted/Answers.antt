use Rattle.collate_records.proofs.reordering.AcceptedMovedLemmas.{file_accepted}
use Rattle.collate_records.proofs.laws.files.files_in_another_order_are_accepted.Goals as goal

pub returns : goal.returns
returns c = λ limits a b accepted lines short. file_accepted limits a b accepted lines short
