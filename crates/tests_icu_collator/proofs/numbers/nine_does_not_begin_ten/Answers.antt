use Rattle.std.proofs.Common.{[], ◌∷◌, arith}
use Rattle.tests_icu_collator.proofs.NumberExamples.{one_digit, ten_is_whole}
use Rattle.tests_icu_collator.proofs.numbers.nine_does_not_begin_ten.Goals as goal

pub returns : goal.returns
returns c lead more = c.no_number_begins_another.ensures lead (9 ∷ []) (1 ∷ 0 ∷ []) more (one_digit 9 (omega arith)) ten_is_whole
