use Rattle.icu_collator.proofs.keys.DecidingLevelLemmas.{secondaries_decide}
use Rattle.icu_collator.proofs.laws.levels.secondaries_decide.Goals as goal

pub returns : goal.returns
returns c = secondaries_decide
