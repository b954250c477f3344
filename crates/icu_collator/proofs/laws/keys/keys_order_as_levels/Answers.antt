use Rattle.icu_collator.proofs.keys.TextKeyLemmas.{level_keys_order}
use Rattle.icu_collator.proofs.laws.keys.keys_order_as_levels.Goals as goal

pub returns : goal.returns
returns c = level_keys_order
