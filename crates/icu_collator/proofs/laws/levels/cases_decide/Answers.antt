use Rattle.icu_collator.proofs.keys.DecidingLevelLemmas.{cases_decide}
use Rattle.icu_collator.proofs.laws.levels.cases_decide.Goals as goal

pub returns : goal.returns
returns c = cases_decide
