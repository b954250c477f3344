use Rattle.examples_icu_collator.specs.Letters.{digits_collation, numeric_options}
use Rattle.examples_icu_collator.proofs.LettersLemmas.{letters_is_decomposing}
use Rattle.examples_icu_collator.proofs.KeyExamples.{digits_sound}
use Rattle.examples_icu_collator.proofs.keys.levels_are_sound.Goals as goal

pub returns : goal.returns
returns c strength text =
    c.texts_have_sound_levels.ensures digits_collation (numeric_options strength) text letters_is_decomposing digits_sound
