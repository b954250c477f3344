use Rattle.collate_records.proofs.reading.ReadingAcceptedLemmas.{file_within}
use Rattle.collate_records.proofs.laws.accepted_files_decompose.Goals as goal

pub returns : goal.returns
returns c = λ limits file accepted. file_within limits file accepted
