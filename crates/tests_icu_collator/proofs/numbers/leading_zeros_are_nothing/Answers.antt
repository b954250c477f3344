use Rattle.std.proofs.Common.{[], ◌∷◌, refl, arith}
use Rattle.tests_icu_collator.proofs.NumberExamples.{one_digit, padded_is_whole}
use Rattle.tests_icu_collator.proofs.numbers.leading_zeros_are_nothing.Goals as goal

pub returns : goal.returns
returns c lead =
    c.equal_values_have_equal_elements.ensures lead (0 ∷ 0 ∷ 7 ∷ []) (7 ∷ []) padded_is_whole (one_digit 7 (omega arith)) refl
