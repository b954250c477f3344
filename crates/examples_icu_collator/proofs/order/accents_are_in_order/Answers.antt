use Rattle.std.proofs.Common.{refl, ◌∙◌}
use Rattle.std.specs.Prelude.{◌≢◌}
use Rattle.std.specs.declared.cmp.Ordering.TheVariants.{Equal}
use Rattle.icu_collator_types.specs.declared.options.Strength.TheVariants.{Tertiary}
use Rattle.examples_icu_collator.specs.Letters.{letters_collation, plain_options, cote_with_acute, cote_with_circumflex}
use Rattle.icu_collator.specs.Order.{collation_order}
use Rattle.examples_icu_collator.proofs.TextExamples.{acute_is_below_circumflex}
use Rattle.examples_icu_collator.proofs.order.accents_are_in_order.Goals as goal

pub returns : goal.returns
returns c strength higher =
    let apart : collation_order letters_collation (plain_options Tertiary) cote_with_acute cote_with_circumflex ≢ Equal = λ e. cc (acute_is_below_circumflex, e)
    in c.raised_strength_keeps_order.ensures letters_collation (plain_options Tertiary) Tertiary strength cote_with_acute cote_with_circumflex refl higher apart ∙ acute_is_below_circumflex
