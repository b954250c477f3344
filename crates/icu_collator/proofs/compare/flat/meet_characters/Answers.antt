use Rattle.std.proofs.Common.{◌≡◌, ℕ, Some, true, rules, subst}
use Rattle.icu_normalizer_core.specs.Canonical.{IsDecomposing}
use Rattle.icu_collator_core.specs.FlatSteps.{StepsTo}
use Rattle.icu_collator_core.specs.ReadSources.{canonical_by}
use Rattle.icu_collator.specs.FlatOrders.{does_count}
use Rattle.icu_collator.proofs.orders.OrderByFlatLemmas.{pass_both, steps_met}
use Rattle.icu_collator.proofs.compare.flat.meet_characters.Goals as goal

pub returns-then-first-second-clause-next : goal.returns-then-first-second-clause-next
returns-then-first-second-clause-next g c = λ a b ok also alike.
    let source = c.args.checked.now in
    let first = c.in-Some-flat_primary.first in
    let second = c.in-Some-step_of_second.second in
    let left = c.next.new.self in
    let right = c.next-2.new.self in
    let same : second.0 ≡ first.0 = search rules in
    pass_both source g.I.Iterator.next_gives g.J.Iterator.next_gives c.args.end c.args.numeric a b c.args.left.now left c.args.right.now right
    c.in-Some.c c.in-Some-next.d c.args.left_class c.args.right_class first.0 first.1 second.1 alike
    (subst (λ it. g.I.Iterator.next_gives it (Some c.in-Some.c) left) c.again-left.ensures c.in-Some.ensures.steps)
    (subst (λ it. g.J.Iterator.next_gives it (Some c.in-Some-next.d) right) c.again-right.ensures c.in-Some-next.ensures.steps)
    c.in-Some-flat_primary.ensures
    (subst (λ (p : ℕ). StepsTo source c.args.numeric c.in-Some-next.d c.args.right_class p second.1) same c.in-Some-step_of_second.ensures)

pub returns-clause-next : goal.returns-clause-next
returns-clause-next g c = λ a b ok also alike.
    let source = c.args.checked.now in
    let first = c.in-Some-flat_primary.first in
    let second = c.in-Some-step_of_second.second in
    let left = c.next.new.self in
    let right = c.next-2.new.self in
    let meeting = c.meet_settled-meeting in
    let count : does_count c.args.end first.0 ≡ true = search rules in
    let also_count : does_count c.args.end second.0 ≡ true = search rules in
    let decomposing : IsDecomposing (canonical_by source) = search rules in
    steps_met source g.I.Iterator.next_gives g.J.Iterator.next_gives c.args.end c.args.numeric a b c.args.left.now left c.args.right.now right
    c.in-Some.c c.in-Some-next.d c.args.left_class c.args.right_class first.0 second.0 first.1 second.1 meeting.result decomposing alike
    (subst (λ it. g.I.Iterator.next_gives it (Some c.in-Some.c) left) c.again-left.ensures c.in-Some.ensures.steps)
    (subst (λ it. g.J.Iterator.next_gives it (Some c.in-Some-next.d) right) c.again-right.ensures c.in-Some-next.ensures.steps)
    c.in-Some-flat_primary.ensures c.in-Some-step_of_second.ensures count also_count meeting.ensures.meets
    (λ lefts rights. meeting.ensures.settled a b lefts rights) ok also
