use Rattle.std.proofs.Common.{◌∙◌}
use Rattle.icu_collator_types.specs.declared.options.Strength.TheVariants.{Identical}
use Rattle.examples_icu_collator.specs.Letters.{digits_collation, numeric_options}
use Rattle.examples_icu_collator.specs.LetterLevels.{levels_of_7, levels_of_07}
use Rattle.examples_icu_collator.proofs.KeyExamples.{digits_sound}
use Rattle.examples_icu_collator.proofs.LevelExamples.{sound_7, sound_07, characters_after_cases, characters_after_primaries, characters_after_quaternaries, characters_after_secondaries, characters_after_tertiaries, characters_differ, characters_order_them}
use Rattle.examples_icu_collator.proofs.levels.zero_decides.Goals as goal

pub returns : goal.returns
returns c =
    c.characters_decide.ensures digits_collation (numeric_options Identical) (levels_of_7 (numeric_options Identical)) (levels_of_07 (numeric_options Identical)) digits_sound (sound_7 Identical) (sound_07 Identical)
    characters_after_primaries characters_after_secondaries characters_after_cases characters_after_tertiaries characters_after_quaternaries characters_differ
    ∙ characters_order_them
