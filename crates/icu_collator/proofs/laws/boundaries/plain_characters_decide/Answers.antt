use Rattle.icu_collator.proofs.boundaries.DecidingCharacterLemmas.{plain_characters_decide}
use Rattle.icu_collator.proofs.laws.boundaries.plain_characters_decide.Goals as goal

pub returns : goal.returns
returns c = plain_characters_decide
