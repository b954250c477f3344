use Rattle.std.proofs.Common.{[], ◌∷◌, refl, ◌∙◌}
use Rattle.std.specs.Prelude.{◌≢◌}
use Rattle.std.specs.declared.cmp.Ordering.TheVariants.{Equal}
use Rattle.icu_collator_types.specs.declared.options.Strength.TheVariants.{Primary}
use Rattle.examples_icu_collator.specs.Letters.{letters_collation, plain_options}
use Rattle.icu_collator.specs.Order.{collation_order}
use Rattle.examples_icu_collator.proofs.TextExamples.{a_is_below_b, b_is_below_c, lowest_is_lowest}
use Rattle.examples_icu_collator.proofs.order.letters_are_in_order.Goals as goal

pub returns-clause-first : goal.returns-clause-first
returns-clause-first c strength =
    let apart : collation_order letters_collation (plain_options Primary) (0x61 ∷ []) (0x62 ∷ []) ≢ Equal = λ e. cc (a_is_below_b, e)
    in c.raised_strength_keeps_order.ensures letters_collation (plain_options Primary) Primary strength (0x61 ∷ []) (0x62 ∷ []) refl (lowest_is_lowest strength) apart ∙ a_is_below_b

pub returns-clause-second : goal.returns-clause-second
returns-clause-second c strength =
    let apart : collation_order letters_collation (plain_options Primary) (0x62 ∷ []) (0x63 ∷ []) ≢ Equal = λ e. cc (b_is_below_c, e)
    in c.raised_strength_keeps_order.ensures letters_collation (plain_options Primary) Primary strength (0x62 ∷ []) (0x63 ∷ []) refl (lowest_is_lowest strength) apart ∙ b_is_below_c
