use Rattle.std.proofs.Common.{◌∙◌}
use Rattle.icu_collator_types.specs.declared.options.Strength.TheVariants.{Tertiary}
use Rattle.examples_icu_collator.specs.Letters.{digits_collation, plain_options}
use Rattle.examples_icu_collator.specs.LetterLevels.{levels_of_a, levels_of_capital_a}
use Rattle.examples_icu_collator.proofs.KeyExamples.{digits_sound}
use Rattle.examples_icu_collator.proofs.LevelExamples.{a_sound, capital_a_sound, tertiaries_after_cases, tertiaries_after_primaries, tertiaries_after_secondaries, tertiaries_differ, tertiaries_order_them}
use Rattle.examples_icu_collator.proofs.levels.capital_decides.Goals as goal

pub returns : goal.returns
returns c =
    c.tertiaries_decide.ensures digits_collation (plain_options Tertiary) (levels_of_a (plain_options Tertiary)) (levels_of_capital_a (plain_options Tertiary)) digits_sound (a_sound (plain_options Tertiary)) (capital_a_sound (plain_options Tertiary))
    tertiaries_after_primaries tertiaries_after_secondaries tertiaries_after_cases tertiaries_differ
    ∙ tertiaries_order_them
