use Rattle.std.proofs.Common.{◌≡◌, ◌∙◌, false, true, rules}
use Rattle.icu_collator_types.specs.Options.{is_at_least}
use Rattle.icu_collator_types.specs.declared.options.Strength.TheVariants.{Identical}
use Rattle.icu_collator.specs.Collators.{source_collation}
use Rattle.icu_collator.proofs.orders.BoundaryOrderLemmas.{order_behind, whole_order}
use Rattle.icu_collator.proofs.compare.listed.compare_elements_behind.Goals as goal

pub returns-then-is_whole : goal.returns-then-is_whole
returns-then-is_whole c = λ front a b whole left right.
    let inexact : is_at_least c.args.options.now.strength Identical ≡ false = search rules in
    c.in_ok-order.ensures
    ∙ whole_order (source_collation c.args.checked.now) c.args.options.now inexact front a b c.args.lefts.now c.args.rights.now (whole c.if-is_whole.true) left right

pub returns : goal.returns
returns c = λ front a b whole left right.
    let inexact : is_at_least c.args.options.now.strength Identical ≡ false = search rules in
    let may : c.may_leave_front.result ≡ true = search rules in
    c.in_ok-order-2.ensures
    ∙ order_behind (source_collation c.args.checked.now) c.args.options.now inexact front a b c.args.lefts.now c.args.rights.now
    (c.may_leave_front.ensures.forward may) (c.may_leave_front.ensures.left may) (c.may_leave_front.ensures.right may) left right
