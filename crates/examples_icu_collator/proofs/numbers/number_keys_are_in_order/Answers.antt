use Rattle.std.proofs.Common.{[], ◌∷◌, refl}
use Rattle.examples_icu_collator.specs.Letters.{digits_collation, numeric_options}
use Rattle.examples_icu_collator.proofs.KeyExamples.{digits_sound}
use Rattle.examples_icu_collator.proofs.TextExamples.{two_scalars, ten_scalars, seven_scalars, padded_scalars}
use Rattle.examples_icu_collator.proofs.LettersLemmas.{letters_is_decomposing}
use Rattle.examples_icu_collator.proofs.LetterDigitsLemmas.{letters_digits_alone, letters_digits_apart, letters_dots_light, two_behind_a, ten_behind_a, two_below_ten, seven_before_dot, padded_before_dot, padded_seven}
use Rattle.examples_icu_collator.proofs.numbers.number_keys_are_in_order.Goals as goal

pub returns-clause-lower : goal.returns-clause-lower
returns-clause-lower c strength =
    c.number_keys_order_by_value.ensures.lower digits_collation (numeric_options strength) (0x61 ∷ []) (0x32 ∷ []) (0x31 ∷ 0x30 ∷ []) []
    letters_is_decomposing digits_sound refl letters_digits_alone letters_dots_light refl refl two_behind_a ten_behind_a two_scalars ten_scalars two_below_ten

pub returns-clause-equal : goal.returns-clause-equal
returns-clause-equal c strength below =
    c.number_keys_order_by_value.ensures.equal digits_collation (numeric_options strength) [] (0x30 ∷ 0x30 ∷ 0x30 ∷ 0x37 ∷ []) (0x37 ∷ []) (0x323 ∷ 0x62 ∷ [])
    letters_is_decomposing digits_sound refl letters_digits_apart refl below padded_before_dot seven_before_dot padded_scalars seven_scalars padded_seven
