use Rattle.icu_collator_types.specs.declared.options.Strength.TheVariants.{Tertiary}
use Rattle.examples_icu_collator.specs.Letters.{digits_collation, numeric_options}
use Rattle.examples_icu_collator.specs.LetterLevels.{levels_of_7, levels_of_07}
use Rattle.examples_icu_collator.proofs.KeyExamples.{digits_sound}
use Rattle.examples_icu_collator.proofs.LevelExamples.{sound_7, sound_07, sevens_are_equal}
use Rattle.examples_icu_collator.proofs.levels.sevens_have_one_key.Goals as goal

pub returns : goal.returns
returns c =
    c.equal_levels_have_equal_keys.ensures digits_collation (numeric_options Tertiary) (levels_of_7 (numeric_options Tertiary)) (levels_of_07 (numeric_options Tertiary)) digits_sound (sound_7 Tertiary) (sound_07 Tertiary) sevens_are_equal
