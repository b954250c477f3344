use Rattle.std.proofs.Common.{sym, arith, subst}
use Rattle.icu_normalizer_core.specs.Iter.{Spells}
use Rattle.icu_collator.proofs.boundaries.FirstDifferenceLemmas.{agree_first, agree_more, part_left_end, part_right_end, part_there}
use Rattle.icu_collator.proofs.common_front.differences.first_difference.Goals as goal

pub loop-c-init : goal.loop-c-init
loop-c-init g c =
    let same = c.into_iter-c-iterator.ensures.into_iter_gives in
    record {
      agree = λ a b h k. agree_first g.I.Iterator.next_gives g.J.Iterator.next_gives a b _ _ (subst (λ s. Spells g.I.Iterator.next_gives s a) (sym same) h) k;
      ready = c.requires.right_can;
    }

pub next-requires-in-loop-c : goal.next-requires-in-loop-c
next-requires-in-loop-c g c = c.loop-c.invariant.ready

pub returns-then-c-d : goal.returns-then-c-d
returns-then-c-d g c = λ a b h k.
    part_there g.I.Iterator.next_gives g.J.Iterator.next_gives a b c.loop-c.common _ _ _ _ c.in-Some.c c.in-Some-next.d (c.loop-c.invariant.agree a b h k)
    c.in-Some.ensures.steps c.in-Some-next.ensures.steps c.if-c-d.true

pub returns-in-None-next : goal.returns-in-None-next
returns-in-None-next g c = λ a b h k.
    part_right_end g.I.Iterator.next_gives g.J.Iterator.next_gives a b c.loop-c.common _ _ _ _ c.in-Some.c (c.loop-c.invariant.agree a b h k)
    c.in-Some.ensures.steps c.in-None-next.ensures.steps

pub loop-c-preserved : goal.loop-c-preserved
loop-c-preserved g c =
    record {
      agree = λ a b h k.
          agree_more g.I.Iterator.next_gives g.J.Iterator.next_gives a b c.loop-c.common c.saturating_add-common.result _ _ _ _ c.in-Some.c c.in-Some-next.d
          (c.loop-c.invariant.agree a b h k) c.in-Some.ensures.steps c.in-Some-next.ensures.steps c.if-c-d.false (omega (arith, c.saturating_add-common.ensures));
      ready = c.in-Some-next.ensures.goes.keeps;
    }

pub next-requires-2 : goal.next-requires-2
next-requires-2 g c = c.loop-c.invariant.ready

pub returns : goal.returns
returns g c = λ a b h k.
    part_left_end g.I.Iterator.next_gives g.J.Iterator.next_gives a b c.loop-c.common _ _ _ _ c.next-2.result (c.loop-c.invariant.agree a b h k)
    c.in-None.ensures.steps c.next-2.ensures.steps
