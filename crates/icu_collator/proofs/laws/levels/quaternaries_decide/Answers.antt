use Rattle.icu_collator.proofs.keys.DecidingLevelLemmas.{quaternaries_decide}
use Rattle.icu_collator.proofs.laws.levels.quaternaries_decide.Goals as goal

pub returns : goal.returns
returns c = quaternaries_decide
