use Rattle.collate_run.proofs.lines.CommandLineRunLemmas.{ran-nothing}
use Rattle.collate_run.proofs.buffered.run_buffered_with_seed.Goals as goal

pub returns-in_default-clause-ran : goal.returns-in_default-clause-ran
returns-in_default-clause-ran g c = ran-nothing _ _ _

pub returns-clause-ran : goal.returns-clause-ran
returns-clause-ran g c = ran-nothing _ _ _
