use Rattle.std.proofs.Common.{◌∙◌}
use Rattle.examples_icu_collator.specs.Letters.{digits_collation}
use Rattle.examples_icu_collator.specs.LetterLevels.{case_options, levels_of_a, levels_of_capital_a}
use Rattle.examples_icu_collator.proofs.KeyExamples.{digits_sound}
use Rattle.examples_icu_collator.proofs.LevelExamples.{a_sound, capital_a_sound, cases_after_primaries, cases_after_secondaries, cases_differ, cases_order_them}
use Rattle.examples_icu_collator.proofs.levels.cases_of_a_decide.Goals as goal

pub returns : goal.returns
returns c =
    c.cases_decide.ensures digits_collation case_options (levels_of_a case_options) (levels_of_capital_a case_options) digits_sound (a_sound case_options) (capital_a_sound case_options)
    cases_after_primaries cases_after_secondaries cases_differ
    ∙ cases_order_them
