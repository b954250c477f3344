use Rattle.icu_collator.proofs.keys.DecidingLevelLemmas.{primaries_decide}
use Rattle.icu_collator.proofs.laws.levels.primaries_decide.Goals as goal

pub returns : goal.returns
returns c = primaries_decide
