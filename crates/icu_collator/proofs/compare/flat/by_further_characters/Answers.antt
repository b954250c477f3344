use Rattle.std.proofs.Common.{arith, subst}
use Rattle.icu_collator.specs.FlatOrders.{IsMet}
use Rattle.icu_collator.specs.declared.compare.flat.Meeting.{Meeting}
use Rattle.icu_collator.proofs.compare.flat.by_further_characters.Goals as goal

pub primaries-init : goal.primaries-init
primaries-init g c = record {
  left_can = c.requires.left;
  left_ends = c.requires.left_ends;
  right_can = c.requires.right;
  right_ends = c.requires.right_ends;
  alike = λ a b h ok also. h;
}

pub primaries-preserved : goal.primaries-preserved
primaries-preserved g c =
    let next = c.meet_either-meeting in
    let left = next.ensures.left_nearer c.in-Alike.is in
    let right = next.ensures.right_nearer c.in-Alike.is in
    record {
      left_can = left.0;
      left_ends = left.1;
      right_can = right.0;
      right_ends = right.1;
      alike = λ a b h ok also.
          subst (λ (meeting : Meeting). IsMet c.args.checked.now c.args.end c.args.numeric g.I.Iterator.next_gives g.J.Iterator.next_gives a b meeting next.result.1 next.result.2 next.result.3 next.result.4)
          c.in-Alike.is (next.ensures.next a b ok also (c.primaries.invariant.alike a b h ok also));
    }

pub primaries-smaller : goal.primaries-smaller
primaries-smaller g c = omega (arith, (c.meet_either-meeting.ensures.left_nearer c.in-Alike.is).2)

pub returns-in-BothEnd : goal.returns-in-BothEnd
returns-in-BothEnd g c = λ a b ok also h.
    let next = c.meet_either-meeting in
    subst (λ (meeting : Meeting). IsMet c.args.checked.now c.args.end c.args.numeric g.I.Iterator.next_gives g.J.Iterator.next_gives a b meeting next.result.1 next.result.2 next.result.3 next.result.4)
    c.in-BothEnd.is (next.ensures.next a b ok also (c.primaries.invariant.alike a b h ok also))

pub returns-in-Parted : goal.returns-in-Parted
returns-in-Parted g c = λ a b ok also h.
    let next = c.meet_either-meeting in
    subst (λ (meeting : Meeting). IsMet c.args.checked.now c.args.end c.args.numeric g.I.Iterator.next_gives g.J.Iterator.next_gives a b meeting next.result.1 next.result.2 next.result.3 next.result.4)
    c.in-Parted.is (next.ensures.next a b ok also (c.primaries.invariant.alike a b h ok also))
