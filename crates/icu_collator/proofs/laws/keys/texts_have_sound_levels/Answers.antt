use Rattle.icu_collator.proofs.keys.TextKeyLemmas.{text_levels_sound}
use Rattle.icu_collator.proofs.laws.keys.texts_have_sound_levels.Goals as goal

pub returns : goal.returns
returns c = text_levels_sound
