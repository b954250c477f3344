use Rattle.icu_collator.proofs.boundaries.DecidingCharacterLemmas.{end_behind, end_first}
use Rattle.icu_collator.proofs.laws.boundaries.beginnings_come_first.Goals as goal

pub returns-clause-below : goal.returns-clause-below
returns-clause-below c = end_first

pub returns-clause-above : goal.returns-clause-above
returns-clause-above c = end_behind
