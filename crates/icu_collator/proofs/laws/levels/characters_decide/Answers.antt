use Rattle.icu_collator.proofs.keys.DecidingLevelLemmas.{characters_decide}
use Rattle.icu_collator.proofs.laws.levels.characters_decide.Goals as goal

pub returns : goal.returns
returns c = characters_decide
