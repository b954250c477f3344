use Rattle.std.proofs.Common.{refl, subst, []}
use Rattle.icu_collator.specs.FlatOrders.{IsMeeting}
use Rattle.icu_collator.specs.declared.compare.flat.Meeting.{Meeting}
use Rattle.icu_collator.proofs.orders.AheadLemmas.{nothing_met}
use Rattle.icu_collator.proofs.orders.AheadOrderLemmas.{alike_on, both_out, parting_decides}
use Rattle.icu_collator.proofs.orders.OrderByFlatLemmas.{alike_left, alike_right}
use Rattle.icu_collator.proofs.compare.aheads.by_aheads.Goals as goal

pub loop-turn-init : goal.loop-turn-init
loop-turn-init g c =
    let source = c.args.checked.now in
    record {
      left_can = c.requires.left;
      left_ends = c.requires.left_ends;
      right_can = c.requires.right;
      right_ends = c.requires.right_ends;
      met = λ a b spelled others.
          record {
            ps = [];
            qs = [];
            same = refl;
            lefts = nothing_met source c.args.end c.args.numeric g.I.Iterator.next_gives a [] c.args.left c.one.result spelled c.one.ensures;
            rights = nothing_met source c.args.end c.args.numeric g.J.Iterator.next_gives b [] c.args.right c.one-2.result others c.one-2.ensures;
          };
    }

pub loop-turn-preserved : goal.loop-turn-preserved
loop-turn-preserved g c =
    let source = c.args.checked.now in
    let one = c.next_ahead-first in
    let two = c.next_ahead-second in
    let meets = subst (λ (said : Meeting). IsMeeting source one.result.0 two.result.0 said) c.in-Alike.is c.meet.ensures in
    let l = alike_left source one.result.0 two.result.0 meets in
    let r = alike_right source one.result.0 two.result.0 meets in
    record {
      left_can = one.ensures.can l.0 l.1;
      left_ends = one.ensures.finite l.0 l.1;
      right_can = two.ensures.can r.0 r.1;
      right_ends = two.ensures.finite r.0 r.1;
      met = λ a b spelled others.
          let h = c.loop-turn.invariant.met a b spelled others in
          alike_on source c.args.end c.args.numeric g.I.Iterator.next_gives g.J.Iterator.next_gives a b h.ps h.qs h.same
          one.result.1.held one.result.1.chars one.result.1.read two.result.1.held two.result.1.chars two.result.1.read one.result.0 two.result.0 meets
          (one.ensures.next a h.ps h.lefts) (two.ensures.next b h.qs h.rights);
    }

pub returns-in-BothEnd : goal.returns-in-BothEnd
returns-in-BothEnd g c = λ a b ok also spelled others.
    let source = c.args.checked.now in
    let one = c.next_ahead-first in
    let two = c.next_ahead-second in
    let meets = subst (λ (said : Meeting). IsMeeting source one.result.0 two.result.0 said) c.in-BothEnd.is c.meet.ensures in
    let h = c.loop-turn.invariant.met a b spelled others in
    both_out source c.args.end c.args.numeric g.I.Iterator.next_gives g.J.Iterator.next_gives a b h.ps h.qs h.same
    one.result.1.held one.result.1.chars one.result.1.read two.result.1.held two.result.1.chars two.result.1.read one.result.0 two.result.0 meets
    (one.ensures.next a h.ps h.lefts) (two.ensures.next b h.qs h.rights)

pub returns-in-Parted : goal.returns-in-Parted
returns-in-Parted g c = λ a b ok also spelled others.
    let source = c.args.checked.now in
    let one = c.next_ahead-first in
    let two = c.next_ahead-second in
    let meets = subst (λ (said : Meeting). IsMeeting source one.result.0 two.result.0 said) c.in-Parted.is c.meet.ensures in
    let h = c.loop-turn.invariant.met a b spelled others in
    parting_decides source c.args.end c.args.numeric g.I.Iterator.next_gives g.J.Iterator.next_gives a b h.ps h.qs h.same
    one.result.1.held one.result.1.chars one.result.1.read two.result.1.held two.result.1.chars two.result.1.read one.result.0 two.result.0 c.in-Parted.order meets
    (one.ensures.next a h.ps h.lefts) (two.ensures.next b h.qs h.rights)
    (c.stands_at.ensures c.if-not-stands_at.false) (c.stands_at-in-Parted.ensures c.if-not-stands_at-2.false) ok also
