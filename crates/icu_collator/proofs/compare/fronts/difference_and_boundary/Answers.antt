use Rattle.std.proofs.Common.{◌⊎◌, ⊎_elim, arith, subst, sym}
use Rattle.std.specs.Iterator.{IsFinite}
use Rattle.icu_normalizer_core.specs.Iter.{Spells}
use Rattle.icu_collator.specs.CommonBoundaries.{BeginAt}
use Rattle.icu_collator.specs.declared.compare.fronts.CommonBoundary.{CommonBoundary}
use Rattle.icu_collator.proofs.boundaries.CommonBoundaryLemmas.{agree_begun, agree_on, begin_first, begin_there}
use Rattle.icu_collator.proofs.boundaries.FirstDifferenceLemmas.{part_left_end, part_right_end, part_there}
use Rattle.icu_collator.proofs.compare.fronts.difference_and_boundary.Goals as goal

pub common-init : goal.common-init
common-init g c = record {
  left_can = c.requires.left;
  left_ends = c.requires.left_ends;
  right_can = c.requires.right;
  right_ends = c.requires.right_ends;
  agree = λ a b h k. agree_begun g.I.Iterator.next_gives g.J.Iterator.next_gives a b c.args.left c.args.right h k;
  boundary = λ a b h k.
      begin_first g.I.Iterator.next_gives g.J.Iterator.next_gives a b c.args.checked.now c.again.result c.again-2.result
      (subst (λ it. Spells g.I.Iterator.next_gives it a) (sym c.again.ensures) h) (subst (λ it. Spells g.J.Iterator.next_gives it b) (sym c.again-2.ensures) k);
  kept_left_can = subst (λ it. g.I.Iterator.can_next it) (sym c.again.ensures) c.requires.left;
  kept_left_ends = subst (λ it. IsFinite (g.I.Iterator.remaining it)) (sym c.again.ensures) c.requires.left_ends;
  kept_right_can = subst (λ it. g.J.Iterator.can_next it) (sym c.again-2.ensures) c.requires.right;
  kept_right_ends = subst (λ it. IsFinite (g.J.Iterator.remaining it)) (sym c.again-2.ensures) c.requires.right_ends;
}

pub returns-then-c-d-clause-parts : goal.returns-then-c-d-clause-parts
returns-then-c-d-clause-parts g c = λ a b h k.
    part_there g.I.Iterator.next_gives g.J.Iterator.next_gives a b c.common.common c.common.left c.next.new.self c.common.right c.next-second.new.self c.in-Some.c c.in-Some-second.d
    (c.common.invariant.agree a b h k).agreed c.in-Some.ensures.steps c.in-Some-second.ensures.steps c.if-c-d.true

pub returns-in-None-second-clause-parts : goal.returns-in-None-second-clause-parts
returns-in-None-second-clause-parts g c = λ a b h k.
    part_right_end g.I.Iterator.next_gives g.J.Iterator.next_gives a b c.common.common c.common.left c.next.new.self c.common.right c.next-second.new.self c.in-Some.c
    (c.common.invariant.agree a b h k).agreed c.in-Some.ensures.steps c.in-None-second.ensures.steps

pub returns-in-None-clause-parts : goal.returns-in-None-clause-parts
returns-in-None-clause-parts g c = λ a b h k.
    part_left_end g.I.Iterator.next_gives g.J.Iterator.next_gives a b c.common.common c.common.left c.next.new.self c.common.right c.next-second.new.self c.next-second.result
    (c.common.invariant.agree a b h k).agreed c.in-None.ensures.steps c.next-second.ensures.steps

pub common-preserved : goal.common-preserved
common-preserved g c =
    let inv = c.common.invariant in
    let left_on = c.in-Some.ensures.goes.on inv.left_ends in
    let right_on = c.in-Some-second.ensures.goes.on inv.right_ends in
    let again = c.again-in-common.ensures in
    let also = c.again-in-common-2.ensures in
    let chosen = c.later_boundary-boundary.ensures in
    record {
      left_can = left_on.0;
      left_ends = left_on.1;
      right_can = right_on.0;
      right_ends = right_on.1;
      agree = λ a b h k.
          agree_on g.I.Iterator.next_gives g.J.Iterator.next_gives a b c.common.common c.saturating_add-common.result c.common.left c.next.new.self c.common.right c.next-second.new.self c.in-Some.c c.in-Some-second.d
          (inv.agree a b h k) c.in-Some.ensures.steps c.in-Some-second.ensures.steps c.if-c-d.false
          (omega (arith, c.saturating_add-common.ensures)) (λ none. absurd (omega (arith, c.saturating_add-common.ensures, none)));
      boundary = λ a b h k.
          ⊎_elim
          (λ here.
          subst (λ (bd : CommonBoundary g.row.I.Denot g.row.J.Denot). BeginAt c.args.checked.now g.I.Iterator.next_gives g.J.Iterator.next_gives a b bd.index bd.left bd.right) (sym here.0)
          (subst (λ it. BeginAt c.args.checked.now g.I.Iterator.next_gives g.J.Iterator.next_gives a b c.common.common it c.again-in-common-2.result) (sym again)
          (subst (λ it. BeginAt c.args.checked.now g.I.Iterator.next_gives g.J.Iterator.next_gives a b c.common.common c.common.left it) (sym also)
          (begin_there g.I.Iterator.next_gives g.J.Iterator.next_gives a b c.args.checked.now c.common.common c.common.left c.next.new.self c.common.right c.next-second.new.self c.in-Some.c c.in-Some-second.d
          (inv.agree a b h k) c.in-Some.ensures.steps c.in-Some-second.ensures.steps c.if-c-d.false here.1))))
          (λ old.
          subst (λ (bd : CommonBoundary g.row.I.Denot g.row.J.Denot). BeginAt c.args.checked.now g.I.Iterator.next_gives g.J.Iterator.next_gives a b bd.index bd.left bd.right) (sym old)
          (inv.boundary a b h k))
          chosen;
      kept_left_can =
          ⊎_elim
          (λ here. subst (λ (bd : CommonBoundary g.row.I.Denot g.row.J.Denot). g.I.Iterator.can_next bd.left) (sym here.0) (subst (λ it. g.I.Iterator.can_next it) (sym again) inv.left_can))
          (λ old. subst (λ (bd : CommonBoundary g.row.I.Denot g.row.J.Denot). g.I.Iterator.can_next bd.left) (sym old) inv.kept_left_can) chosen;
      kept_left_ends =
          ⊎_elim
          (λ here. subst (λ (bd : CommonBoundary g.row.I.Denot g.row.J.Denot). IsFinite (g.I.Iterator.remaining bd.left)) (sym here.0) (subst (λ it. IsFinite (g.I.Iterator.remaining it)) (sym again) inv.left_ends))
          (λ old. subst (λ (bd : CommonBoundary g.row.I.Denot g.row.J.Denot). IsFinite (g.I.Iterator.remaining bd.left)) (sym old) inv.kept_left_ends) chosen;
      kept_right_can =
          ⊎_elim
          (λ here. subst (λ (bd : CommonBoundary g.row.I.Denot g.row.J.Denot). g.J.Iterator.can_next bd.right) (sym here.0) (subst (λ it. g.J.Iterator.can_next it) (sym also) inv.right_can))
          (λ old. subst (λ (bd : CommonBoundary g.row.I.Denot g.row.J.Denot). g.J.Iterator.can_next bd.right) (sym old) inv.kept_right_can) chosen;
      kept_right_ends =
          ⊎_elim
          (λ here. subst (λ (bd : CommonBoundary g.row.I.Denot g.row.J.Denot). IsFinite (g.J.Iterator.remaining bd.right)) (sym here.0) (subst (λ it. IsFinite (g.J.Iterator.remaining it)) (sym also) inv.right_ends))
          (λ old. subst (λ (bd : CommonBoundary g.row.I.Denot g.row.J.Denot). IsFinite (g.J.Iterator.remaining bd.right)) (sym old) inv.kept_right_ends) chosen;
    }
