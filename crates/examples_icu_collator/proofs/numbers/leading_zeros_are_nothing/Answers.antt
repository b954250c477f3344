use Rattle.std.proofs.Common.{[], ◌∷◌, refl}
use Rattle.examples_icu_collator.specs.Letters.{digits_collation, numeric_options}
use Rattle.examples_icu_collator.proofs.LettersLemmas.{letters_is_decomposing}
use Rattle.examples_icu_collator.proofs.LetterDigitsLemmas.{letters_digits_apart, seven_before_dot, padded_before_dot, padded_seven}
use Rattle.examples_icu_collator.proofs.numbers.leading_zeros_are_nothing.Goals as goal

pub returns : goal.returns
returns c strength below =
    c.numbers_order_by_value.ensures.equal digits_collation (numeric_options strength) [] (0x30 ∷ 0x30 ∷ 0x30 ∷ 0x37 ∷ []) (0x37 ∷ []) (0x323 ∷ 0x62 ∷ [])
    letters_is_decomposing letters_digits_apart refl below padded_before_dot seven_before_dot padded_seven
