use Rattle.std.proofs.Common.{[], ◌∷◌, arith}
use Rattle.tests_icu_collator.proofs.NumberExamples.{one_digit, ten_is_whole}
use Rattle.tests_icu_collator.proofs.numbers.nine_is_below_ten.Goals as goal

pub returns : goal.returns
returns c lead behind behind_others =
    c.numbers_order_as_values.ensures lead (9 ∷ []) (1 ∷ 0 ∷ []) behind behind_others (one_digit 9 (omega arith)) ten_is_whole
