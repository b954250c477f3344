use Rattle.std.proofs.Common.{[], ◌∷◌, refl, ◌∙◌}
use Rattle.icu_collator_types.specs.declared.options.Strength.TheVariants.{Tertiary}
use Rattle.examples_icu_collator.specs.Letters.{digits_collation, plain_options}
use Rattle.examples_icu_collator.specs.LetterLevels.{small_a, small_b, levels_of_b}
use Rattle.icu_collator.specs.Levels.{levels_of}
use Rattle.examples_icu_collator.proofs.KeyExamples.{digits_sound}
use Rattle.examples_icu_collator.proofs.LevelExamples.{a_then_b_sound, a_then_b_is_below, b_sound}
use Rattle.examples_icu_collator.proofs.keys.keys_of_elements_are_in_order.Goals as goal

pub returns : goal.returns
returns c =
    c.keys_order_as_levels.ensures digits_collation (plain_options Tertiary)
    (levels_of digits_collation (plain_options Tertiary) (small_a ∷ small_b ∷ []) (0x61 ∷ 0x62 ∷ [])) (levels_of_b (plain_options Tertiary))
    digits_sound a_then_b_sound (b_sound (plain_options Tertiary)) refl
    ∙ a_then_b_is_below
