use Rattle.icu_collator.proofs.keys.DecidingLevelLemmas.{tertiaries_decide}
use Rattle.icu_collator.proofs.laws.levels.tertiaries_decide.Goals as goal

pub returns : goal.returns
returns c = tertiaries_decide
