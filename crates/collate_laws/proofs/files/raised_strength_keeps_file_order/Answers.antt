use Rattle.collate_laws.proofs.FileLemmas.{raised_file_order}
use Rattle.collate_laws.proofs.files.raised_strength_keeps_file_order.Goals as goal

pub returns : goal.returns
returns c = λ file options strength preferences x y off above differ. raised_file_order file options preferences strength x y off above differ
