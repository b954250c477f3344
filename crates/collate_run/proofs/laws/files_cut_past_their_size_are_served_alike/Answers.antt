use Rattle.collate_laws.proofs.CutFileLemmas.{cut_read}
use Rattle.collate_run.proofs.laws.files_cut_past_their_size_are_served_alike.Goals as goal

pub returns : goal.returns
returns c = λ limits status reader_old reader_new writer_old writer_new errors_old errors_new choice file. (
  λ serves. record { read = serves.read; read_is = (cut_read limits file serves.read).0 serves.read_is; served = serves.served },
  λ serves. record { read = serves.read; read_is = (cut_read limits file serves.read).1 serves.read_is; served = serves.served },
)
