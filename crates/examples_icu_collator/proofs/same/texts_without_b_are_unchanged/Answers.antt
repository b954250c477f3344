use Rattle.examples_icu_collator.proofs.ChangedTableLemmas.{acute_reaches_no_b, read_alike}
use Rattle.examples_icu_collator.proofs.same.texts_without_b_are_unchanged.Goals as goal

pub returns-clause-said : goal.returns-clause-said
returns-clause-said c = read_alike

pub returns-clause-accented : goal.returns-clause-accented
returns-clause-accented c = acute_reaches_no_b
