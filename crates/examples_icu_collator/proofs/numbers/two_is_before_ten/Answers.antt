use Rattle.std.proofs.Common.{[], ◌∷◌, refl}
use Rattle.examples_icu_collator.specs.Letters.{digits_collation, numeric_options}
use Rattle.examples_icu_collator.proofs.KeyExamples.{numbers_together}
use Rattle.examples_icu_collator.proofs.LettersLemmas.{letters_is_decomposing}
use Rattle.examples_icu_collator.proofs.LetterDigitsLemmas.{letters_digits_alone, letters_dots_light, two_behind_a, ten_behind_a, two_below_ten}
use Rattle.examples_icu_collator.proofs.numbers.two_is_before_ten.Goals as goal

pub returns : goal.returns
returns c strength =
    c.numbers_order_by_value.ensures.lower digits_collation (numeric_options strength) (0x61 ∷ []) (0x32 ∷ []) (0x31 ∷ 0x30 ∷ []) []
    letters_is_decomposing letters_digits_alone letters_dots_light numbers_together refl refl two_behind_a ten_behind_a two_below_ten
