use Rattle.icu_collator_core.proofs.unsafety.UnsafeLemmas.{safe_character}
use Rattle.icu_collator_core.proofs.laws.tables.other_characters_are_safe.Goals as goal

pub returns : goal.returns
returns c = safe_character
