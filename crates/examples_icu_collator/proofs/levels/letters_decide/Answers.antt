use Rattle.std.proofs.Common.{refl, ◌∙◌}
use Rattle.icu_collator_types.specs.declared.options.Strength.TheVariants.{Primary}
use Rattle.examples_icu_collator.specs.Letters.{digits_collation, plain_options}
use Rattle.examples_icu_collator.specs.LetterLevels.{levels_of_a, levels_of_b}
use Rattle.examples_icu_collator.proofs.KeyExamples.{digits_sound}
use Rattle.examples_icu_collator.proofs.LevelExamples.{a_sound, b_sound, primaries_differ, primaries_order_them}
use Rattle.examples_icu_collator.proofs.levels.letters_decide.Goals as goal

pub returns : goal.returns
returns c =
    c.primaries_decide.ensures digits_collation (plain_options Primary) (levels_of_a (plain_options Primary)) (levels_of_b (plain_options Primary)) digits_sound (a_sound (plain_options Primary)) (b_sound (plain_options Primary))
    refl primaries_differ
    ∙ primaries_order_them
