use Rattle.collate_records.proofs.reading.ReadingAcceptedLemmas.{few_within, lines_within}
use Rattle.collate_records.proofs.laws.accepted_files_have_accepted_lines.Goals as goal

pub returns-clause-accepted : goal.returns-clause-accepted
returns-clause-accepted c = λ limits file accepted. lines_within limits file accepted

pub returns-clause-few : goal.returns-clause-few
returns-clause-few c = λ limits file accepted. few_within limits file accepted
