use Rattle.collate_records.proofs.reordering.AcceptedMovedLemmas.{accepted_moved}
use Rattle.collate_records.proofs.laws.files.accepted_lines_are_accepted_in_another_order.Goals as goal

pub returns : goal.returns
returns c = λ a b moved accepted. accepted_moved a b moved accepted
