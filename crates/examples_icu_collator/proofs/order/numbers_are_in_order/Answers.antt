use Rattle.std.proofs.Common.{[], ◌∷◌, refl, ◌∙◌}
use Rattle.std.specs.Prelude.{◌≢◌}
use Rattle.std.specs.declared.cmp.Ordering.TheVariants.{Equal}
use Rattle.icu_collator_types.specs.declared.options.Strength.TheVariants.{Primary}
use Rattle.examples_icu_collator.specs.Letters.{digits_collation, plain_options, numeric_options}
use Rattle.icu_collator.specs.Order.{collation_order}
use Rattle.examples_icu_collator.proofs.TextExamples.{two_is_above_ten, two_is_below_ten, lowest_is_lowest}
use Rattle.examples_icu_collator.proofs.order.numbers_are_in_order.Goals as goal

pub returns-clause-by_letters : goal.returns-clause-by_letters
returns-clause-by_letters c strength =
    let apart : collation_order digits_collation (plain_options Primary) (0x61 ∷ 0x32 ∷ []) (0x61 ∷ 0x31 ∷ 0x30 ∷ []) ≢ Equal = λ e. cc (two_is_above_ten, e)
    in c.raised_strength_keeps_order.ensures digits_collation (plain_options Primary) Primary strength (0x61 ∷ 0x32 ∷ []) (0x61 ∷ 0x31 ∷ 0x30 ∷ []) refl (lowest_is_lowest strength) apart ∙ two_is_above_ten

pub returns-clause-by_value : goal.returns-clause-by_value
returns-clause-by_value c strength =
    let apart : collation_order digits_collation (numeric_options Primary) (0x61 ∷ 0x32 ∷ []) (0x61 ∷ 0x31 ∷ 0x30 ∷ []) ≢ Equal = λ e. cc (two_is_below_ten, e)
    in c.raised_strength_keeps_order.ensures digits_collation (numeric_options Primary) Primary strength (0x61 ∷ 0x32 ∷ []) (0x61 ∷ 0x31 ∷ 0x30 ∷ []) refl (lowest_is_lowest strength) apart ∙ two_is_below_ten
