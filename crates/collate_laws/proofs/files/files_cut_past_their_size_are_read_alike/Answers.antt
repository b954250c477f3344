use Rattle.collate_laws.proofs.CutFileLemmas.{cut_read}
use Rattle.collate_laws.proofs.files.files_cut_past_their_size_are_read_alike.Goals as goal

pub returns : goal.returns
returns c = λ limits file result. cut_read limits file result
