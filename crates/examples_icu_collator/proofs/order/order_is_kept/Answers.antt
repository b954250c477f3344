use Rattle.std.proofs.Common.{[], ◌∷◌, ap, ◌∙◌}
use Rattle.std.specs.Ordering.{ordering_reverse}
use Rattle.examples_icu_collator.specs.Letters.{letters_collation, plain_options, cote_with_acute, cote_with_circumflex}
use Rattle.examples_icu_collator.proofs.order.order_is_kept.Goals as goal

pub returns-clause-turned : goal.returns-clause-turned
returns-clause-turned c strength higher =
    (c.order_is_total.ensures letters_collation (plain_options strength)).antisymm cote_with_circumflex cote_with_acute
    ∙ ap ordering_reverse (c.accents_are_in_order.ensures strength higher)

pub returns-clause-joined : goal.returns-clause-joined
returns-clause-joined c strength =
    (c.order_is_total.ensures letters_collation (plain_options strength)).trans (0x61 ∷ []) (0x62 ∷ []) (0x63 ∷ [])
    (c.letters_are_in_order.ensures.first strength) (c.letters_are_in_order.ensures.second strength)
