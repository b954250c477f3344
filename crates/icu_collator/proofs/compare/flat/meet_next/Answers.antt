use Rattle.std.proofs.Common.{◌∙◌, ap, map, subst, sym}
use Rattle.icu_collator.specs.FlatOrders.{IsMeeting, reordered_by}
use Rattle.icu_collator.specs.declared.compare.flat.Meeting.{Meeting}
use Rattle.icu_collator.proofs.orders.OrderByFlatLemmas.{alike_left, alike_right, met}
use Rattle.icu_collator.proofs.compare.flat.meet_next.Goals as goal

pub returns-clause-next : goal.returns-clause-next
returns-clause-next g c = λ a b ok scalars alike.
    let one = c.next_primary-one in
    let two = c.next_primary-two in
    let source = c.args.checked.now in
    let numeric = c.args.numeric in
    let left_next = one.ensures.next a alike.0 alike.2.left_read in
    let right_next = two.ensures.next b alike.1 alike.2.right_read in
    let meeting = c.meet_settled-meeting in
    let same = ap (map (reordered_by source)) left_next.1 ∙ alike.2.same ∙ sym (ap (map (reordered_by source)) right_next.1) in
    met source g.I.Iterator.next_gives g.J.Iterator.next_gives c.args.end numeric a b left_next.0 right_next.0 same
    one.result.1 two.result.1 one.result.2 two.result.2 one.result.0 two.result.0 meeting.result meeting.ensures.meets
    left_next.2 right_next.2 one.ensures.counts two.ensures.counts (meeting.ensures.settled a b left_next.0 right_next.0 left_next.2 right_next.2) ok scalars

pub returns-clause-left_nearer : goal.returns-clause-left_nearer
returns-clause-left_nearer g c = λ alike.
    let one = c.next_primary-one in
    let two = c.next_primary-two in
    let source = c.args.checked.now in
    let meeting = c.meet_settled-meeting in
    let found = alike_left source one.result.0 two.result.0 (subst (λ (said : Meeting). IsMeeting source one.result.0 two.result.0 said) alike meeting.ensures.meets) in
    one.ensures.nearer found.0 found.1

pub returns-clause-right_nearer : goal.returns-clause-right_nearer
returns-clause-right_nearer g c = λ alike.
    let one = c.next_primary-one in
    let two = c.next_primary-two in
    let source = c.args.checked.now in
    let meeting = c.meet_settled-meeting in
    let found = alike_right source one.result.0 two.result.0 (subst (λ (said : Meeting). IsMeeting source one.result.0 two.result.0 said) alike meeting.ensures.meets) in
    two.ensures.nearer found.0 found.1
