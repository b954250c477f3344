use Rattle.std.proofs.Common.{[], ◌∷◌, refl, ◌∙◌}
use Rattle.icu_collator_types.specs.declared.options.Strength.TheVariants.{Primary, Tertiary}
use Rattle.examples_icu_collator.specs.Letters.{digits_collation, plain_options, numeric_options, cote_with_acute, cote_with_circumflex}
use Rattle.examples_icu_collator.proofs.LettersLemmas.{letters_is_decomposing}
use Rattle.examples_icu_collator.proofs.KeyExamples.{digits_sound}
use Rattle.examples_icu_collator.proofs.TextExamples.{two_scalars, ten_scalars, accents_in_order, cote_with_acute_scalars, cote_with_circumflex_scalars, two_is_below_ten}
use Rattle.examples_icu_collator.proofs.keys.keys_are_in_order.Goals as goal

pub returns-clause-accents : goal.returns-clause-accents
returns-clause-accents c =
    c.keys_order_as_texts.ensures digits_collation (plain_options Tertiary) cote_with_acute cote_with_circumflex
    letters_is_decomposing digits_sound refl cote_with_acute_scalars cote_with_circumflex_scalars
    ∙ accents_in_order

pub returns-clause-numbers : goal.returns-clause-numbers
returns-clause-numbers c =
    c.keys_order_as_texts.ensures digits_collation (numeric_options Primary) (0x61 ∷ 0x32 ∷ []) (0x61 ∷ 0x31 ∷ 0x30 ∷ [])
    letters_is_decomposing digits_sound refl two_scalars ten_scalars
    ∙ two_is_below_ten
