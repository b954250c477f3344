use Rattle.icu_collator.proofs.keys.DecidingLevelLemmas.{equal_levels_have_equal_keys}
use Rattle.icu_collator.proofs.laws.levels.equal_levels_have_equal_keys.Goals as goal

pub returns : goal.returns
returns c = equal_levels_have_equal_keys
