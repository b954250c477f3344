use Rattle.std.proofs.Common.{[], ℕ, Option, arith, refl, rules, subst, sym}
use Rattle.icu_normalizer_core.specs.Canonical.{IsDecomposing}
use Rattle.icu_collator_core.specs.ReadSources.{canonical_by}
use Rattle.icu_collator_core.specs.Stretched.{EndsApart}
use Rattle.icu_collator_core.proofs.readings.StretchedLemmas.{unread_stretched}
use Rattle.icu_collator.specs.FlatOrders.{IsMeeting}
use Rattle.icu_collator.specs.StretchedOrders.{met_primaries}
use Rattle.icu_collator.specs.declared.compare.flat.Meeting.{Meeting}
use Rattle.icu_collator.specs.declared.compare.flat.Meeting.TheVariants.{BothEnd, Parted}
use Rattle.icu_collator.proofs.boundaries.CommonFrontLemmas.{rest_scalars}
use Rattle.icu_collator.proofs.orders.OrderByFlatLemmas.{alike_left, alike_right}
use Rattle.icu_collator.proofs.orders.StretchedOrderLemmas.{met_alike, run}
use Rattle.icu_collator.proofs.compare.stretched.race.Goals as goal

pub loop-turn-init : goal.loop-turn-init
loop-turn-init g c =
    let source = c.args.checked.now in
    let numeric = c.numeric_lead-numeric.result in
    let decomposing : IsDecomposing (canonical_by source) = search rules in
    record {
      left_met = omega arith;
      left_can = λ _. c.requires.left;
      left_ends = λ _. c.requires.left_ends;
      right_met = omega arith;
      right_can = λ _. c.requires.right;
      right_ends = λ _. c.requires.right_ends;
      alike = λ a b ok also spelled others. record {
        left_read = unread_stretched source numeric g.I.Iterator.next_gives a decomposing c.args.left _ c.requires.left_unread spelled;
        right_read = unread_stretched source numeric g.J.Iterator.next_gives b decomposing c.args.right _ c.requires.right_unread others;
        left_within = omega arith;
        right_within = omega arith;
        same = refl;
      };
    }

pub next_settled-requires-clause-met : goal.next_settled-requires-clause-met
next_settled-requires-clause-met g c = c.loop-turn.invariant.left_met

pub next_settled-requires-clause-can : goal.next_settled-requires-clause-can
next_settled-requires-clause-can g c = c.loop-turn.invariant.left_can

pub next_settled-requires-clause-finite : goal.next_settled-requires-clause-finite
next_settled-requires-clause-finite g c = c.loop-turn.invariant.left_ends

pub next_settled-requires-in-loop-turn-clause-met : goal.next_settled-requires-in-loop-turn-clause-met
next_settled-requires-in-loop-turn-clause-met g c = c.loop-turn.invariant.right_met

pub next_settled-requires-in-loop-turn-clause-can : goal.next_settled-requires-in-loop-turn-clause-can
next_settled-requires-in-loop-turn-clause-can g c = c.loop-turn.invariant.right_can

pub next_settled-requires-in-loop-turn-clause-finite : goal.next_settled-requires-in-loop-turn-clause-finite
next_settled-requires-in-loop-turn-clause-finite g c = c.loop-turn.invariant.right_ends

pub loop-turn-preserved : goal.loop-turn-preserved
loop-turn-preserved g c =
    let source = c.args.checked.now in
    let one = c.in_ok-first in
    let two = c.in_ok-second in
    let meets = subst (λ (said : Meeting). IsMeeting source one.first two.second said) c.in-Alike.is c.meet-meeting.ensures in
    let l = alike_left source one.first two.second meets in
    let r = alike_right source one.first two.second meets in
    let end = c.variable_end-end.result in
    record {
      left_met = one.ensures.within l.0 l.1;
      left_can = one.ensures.can l.0 l.1;
      left_ends = one.ensures.finite l.0 l.1;
      right_met = two.ensures.within r.0 r.1;
      right_can = two.ensures.can r.0 r.1;
      right_ends = two.ensures.finite r.0 r.1;
      alike = λ a b ok also spelled others.
          let h = c.loop-turn.invariant.alike a b ok also spelled others in
          met_alike source c.args.options.now end c.variable_end-end.ensures c.numeric_lead-numeric.result c.numeric_lead-numeric.ensures [] a b
          g.I.Iterator.next_gives g.J.Iterator.next_gives (met_primaries end c.loop-turn.lefts c.loop-turn.left_met) (met_primaries end c.loop-turn.rights c.loop-turn.right_met) h.same
          one.left_rest two.right_rest c.next_settled.new.text c.next_settled-in-loop-turn.new.text one.left_next two.right_next one.first two.second meets
          (one.ensures.next a ok h.left_read h.left_within) (two.ensures.next b also h.right_read h.right_within);
    }

pub returns-in-Parted : goal.returns-in-Parted
returns-in-Parted g c = λ front a b ok also left_apart right_apart spelled others.
    let source = c.args.checked.now in
    let one = c.in_ok-first in
    let two = c.in_ok-second in
    let end = c.variable_end-end.result in
    let numeric = c.numeric_lead-numeric in
    let h = c.loop-turn.invariant.alike a b (rest_scalars front a ok) (rest_scalars front b also) spelled others in
    run source c.args.options.now end c.variable_end-end.ensures numeric.result numeric.ensures front a b
    g.I.Iterator.next_gives g.J.Iterator.next_gives (met_primaries end c.loop-turn.lefts c.loop-turn.left_met) (met_primaries end c.loop-turn.rights c.loop-turn.right_met) h.same
    one.left_rest two.right_rest c.next_settled.new.text c.next_settled-in-loop-turn.new.text one.left_next two.right_next
    (subst (λ (n : Option ℕ). EndsApart source n front a) (sym numeric.ensures) left_apart) (subst (λ (n : Option ℕ). EndsApart source n front b) (sym numeric.ensures) right_apart) ok also
    one.first two.second (Parted c.in-Parted.order) (subst (λ (said : Meeting). IsMeeting source one.first two.second said) c.in-Parted.is c.meet-meeting.ensures)
    (one.ensures.next a (rest_scalars front a ok) h.left_read h.left_within) (two.ensures.next b (rest_scalars front b also) h.right_read h.right_within)

pub returns-in-BothEnd : goal.returns-in-BothEnd
returns-in-BothEnd g c = λ front a b ok also left_apart right_apart spelled others.
    let source = c.args.checked.now in
    let one = c.in_ok-first in
    let two = c.in_ok-second in
    let end = c.variable_end-end.result in
    let numeric = c.numeric_lead-numeric in
    let h = c.loop-turn.invariant.alike a b (rest_scalars front a ok) (rest_scalars front b also) spelled others in
    run source c.args.options.now end c.variable_end-end.ensures numeric.result numeric.ensures front a b
    g.I.Iterator.next_gives g.J.Iterator.next_gives (met_primaries end c.loop-turn.lefts c.loop-turn.left_met) (met_primaries end c.loop-turn.rights c.loop-turn.right_met) h.same
    one.left_rest two.right_rest c.next_settled.new.text c.next_settled-in-loop-turn.new.text one.left_next two.right_next
    (subst (λ (n : Option ℕ). EndsApart source n front a) (sym numeric.ensures) left_apart) (subst (λ (n : Option ℕ). EndsApart source n front b) (sym numeric.ensures) right_apart) ok also
    one.first two.second BothEnd (subst (λ (said : Meeting). IsMeeting source one.first two.second said) c.in-BothEnd.is c.meet-meeting.ensures)
    (one.ensures.next a (rest_scalars front a ok) h.left_read h.left_within) (two.ensures.next b (rest_scalars front b also) h.right_read h.right_within)
