use Rattle.std.proofs.Common.{[], ◌∷◌, refl, subst, ◌∙◌, arith}
use Rattle.icu_normalizer_core.proofs.decomposed_lists.IterLemmas.{keeps_then, ended_not, ends_item, ends_error, ends_last}
use Rattle.icu_normalizer.specs.Compositions.{ComposesTo, IsFinished}
use Rattle.icu_normalizer.proofs.composed.FormCompositionLemmas.{composes_stop, keeps_popped, keeps_pushed, finished}
use Rattle.icu_normalizer.proofs.composing.characters.CompositionIterator.next.Goals as goal

pub returns-in-Some-clause-steps : goal.returns-in-Some-clause-steps
returns-in-Some-clause-steps g c =
    let keeps = keeps_popped g.I.Iterator.next_gives _ _ (c.in-Some.c ∷ []) refl c.in-Some.ensures.output in
    record {
      first = record { at = keeps.at };
      ends = ends_item IsFinished _ _ _ (λ f. omega (arith, f.empty, c.in-Some.ensures.fewer));
      again = c.requires;
      size = omega (arith, c.in-Some.ensures.fewer);
    }

pub returns-in-Err-clause-steps : goal.returns-in-Err-clause-steps
returns-in-Err-clause-steps g c =
    let step = rw c.in-Err.is at c.in-Some-next.ensures.steps in
    record {
      first = record {
        at = λ cs left. let now = (c.loop-item.invariant.0.at cs left).2 in composes_stop g.I.Iterator.next_gives _ c.clear.ensures.idle (step.first.at now.unread now.source);
      };
      ends = ends_error IsFinished _ _ _ (λ f. ended_not _ _ _ _ step.ends (c.loop-item.invariant.4 f).source) (record { source = step.ends.finished; empty = c.clear.ensures.idle.empty });
      again = step.again;
      size = omega (arith, step.size, c.clear.ensures.idle.empty, c.loop-item.invariant.2);
    }

pub loop-item-preserved : goal.loop-item-preserved
loop-item-preserved g c =
    let step = rw c.in-Ok.is at c.in-Some-next.ensures.steps in
    let pushed = rw c.in-Ok-None.field-0-is at c.in-Ok-None.ensures in
    let nearer = (c.in-Some-next.ensures.goes.on tt).2 in (
      keeps_then (ComposesTo g.I.Iterator.next_gives) _ _ _ _ c.loop-item.invariant.0 (keeps_pushed g.I.Iterator.next_gives _ _ c.in-Ok.c [] step.first.at pushed.output),
      step.again,
      omega (arith, nearer, pushed.fewer, c.loop-item.invariant.2),
      pushed.composing,
      λ f. absurd (ended_not _ _ _ _ step.ends (c.loop-item.invariant.4 f).source),
    )

pub returns-in-Ok-Some-clause-steps : goal.returns-in-Ok-Some-clause-steps
returns-in-Ok-Some-clause-steps g c =
    let step = rw c.in-Ok.is at c.in-Some-next.ensures.steps in
    let pushed = rw c.in-Ok-Some.field-0-is at c.in-Ok-Some.ensures.output in
    let fewer = rw c.in-Ok-Some.field-0-is at c.in-Ok-Some.ensures.fewer in
    let nearer = (c.in-Some-next.ensures.goes.on tt).2 in
    let keeps = keeps_then (ComposesTo g.I.Iterator.next_gives) _ _ _ _ c.loop-item.invariant.0 (keeps_pushed g.I.Iterator.next_gives _ _ c.in-Ok.c _ step.first.at pushed) in
    record {
      first = record { at = keeps.at };
      ends = ends_item IsFinished _ _ _ (λ f. ended_not _ _ _ _ step.ends (c.loop-item.invariant.4 f).source);
      again = step.again;
      size = omega (arith, nearer, fewer, c.loop-item.invariant.2);
    }

pub returns-in-Err-push-clause-steps : goal.returns-in-Err-push-clause-steps
returns-in-Err-push-clause-steps g c =
    let step = rw c.in-Ok.is at c.in-Some-next.ensures.steps in
    record {
      first = record { at = λ cs left. composes_stop g.I.Iterator.next_gives _ c.clear-in-Err-push.ensures.idle c.stop.ensures.text };
      ends = ends_error IsFinished _ _ _ (λ f. ended_not _ _ _ _ step.ends (c.loop-item.invariant.4 f).source) (record { source = c.stop.ensures.finished; empty = c.clear-in-Err-push.ensures.idle.empty });
      again = c.stop.ensures.ready;
      size = omega (arith, c.clear-in-Err-push.ensures.idle.empty, c.stop.ensures.size);
    }

pub returns-in-Some-finish-clause-steps : goal.returns-in-Some-finish-clause-steps
returns-in-Some-finish-clause-steps g c =
    let step = c.in_default-next.ensures.steps in
    record {
      first = record {
        at = λ cs left.
            let now = c.loop-item.invariant.0.at cs left in
            let end = finished g.I.Iterator.next_gives _ _ (c.in-Some-finish.c ∷ []) step.first.at c.in-Some-finish.ensures.output now.0 now.2 in
            (_, now.1 ∙ end.0, end.1);
      };
      ends = ends_item IsFinished _ _ _ (λ f. let before = c.loop-item.invariant.4 f in omega (arith, before.empty, c.in-Some-finish.ensures.fewer));
      again = step.again;
      size = omega (arith, step.size, c.in-Some-finish.ensures.fewer, c.loop-item.invariant.2);
    }

pub returns-in-None-clause-steps : goal.returns-in-None-clause-steps
returns-in-None-clause-steps g c =
    let step = c.in_default-next.ensures.steps in
    record {
      first = record {
        at = λ cs left.
            let now = c.loop-item.invariant.0.at cs left in
            let end = finished g.I.Iterator.next_gives _ _ [] step.first.at c.in-None.ensures.output now.0 now.2 in
            (now.1 ∙ end.0 ∙ c.in-None.ensures.done, subst (ComposesTo g.I.Iterator.next_gives _) c.in-None.ensures.done end.1);
      };
      ends = ends_last IsFinished _ _ (record { source = step.ends.last; empty = c.in-None.ensures.ended });
      again = step.again;
      size = omega (arith, step.size, c.in-None.ensures.fewer, c.loop-item.invariant.2);
    }
