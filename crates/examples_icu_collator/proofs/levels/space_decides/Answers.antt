use Rattle.std.proofs.Common.{◌∙◌}
use Rattle.examples_icu_collator.specs.Letters.{digits_collation}
use Rattle.examples_icu_collator.specs.LetterLevels.{shifted_options, levels_of_a_space_c, levels_of_ac}
use Rattle.examples_icu_collator.proofs.KeyExamples.{digits_sound}
use Rattle.examples_icu_collator.proofs.LevelExamples.{a_space_c_sound, ac_sound, quaternaries_after_cases, quaternaries_after_primaries, quaternaries_after_secondaries, quaternaries_after_tertiaries, quaternaries_differ, quaternaries_order_them}
use Rattle.examples_icu_collator.proofs.levels.space_decides.Goals as goal

pub returns : goal.returns
returns c =
    c.quaternaries_decide.ensures digits_collation shifted_options (levels_of_a_space_c shifted_options) (levels_of_ac shifted_options) digits_sound (a_space_c_sound shifted_options) (ac_sound shifted_options)
    quaternaries_after_primaries quaternaries_after_secondaries quaternaries_after_cases quaternaries_after_tertiaries quaternaries_differ
    ∙ quaternaries_order_them
