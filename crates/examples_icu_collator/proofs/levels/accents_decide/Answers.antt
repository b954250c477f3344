use Rattle.std.proofs.Common.{◌∙◌}
use Rattle.icu_collator_types.specs.declared.options.Strength.TheVariants.{Secondary}
use Rattle.examples_icu_collator.specs.Letters.{digits_collation, plain_options}
use Rattle.examples_icu_collator.specs.LetterLevels.{levels_of_a_acute, levels_of_a_circumflex}
use Rattle.examples_icu_collator.proofs.KeyExamples.{digits_sound}
use Rattle.examples_icu_collator.proofs.LevelExamples.{a_acute_sound, a_circumflex_sound, secondaries_after_primaries, secondaries_differ, secondaries_order_them}
use Rattle.examples_icu_collator.proofs.levels.accents_decide.Goals as goal

pub returns : goal.returns
returns c =
    c.secondaries_decide.ensures digits_collation (plain_options Secondary) (levels_of_a_acute (plain_options Secondary)) (levels_of_a_circumflex (plain_options Secondary)) digits_sound (a_acute_sound (plain_options Secondary)) (a_circumflex_sound (plain_options Secondary))
    secondaries_after_primaries secondaries_differ
    ∙ secondaries_order_them
