-- Compiled tables have no fault.
use Rattle.collate_compile.proofs.laws.AcceptedLemmas.{compiled_accepted}
use Rattle.collate_compile.proofs.laws.compiled_tables_are_accepted.Goals as goal

pub returns : goal.returns
returns c = λ records canonical tables accepted sound soundly same compiled. compiled_accepted records canonical tables accepted sound soundly same compiled
