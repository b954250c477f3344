use Rattle.std.proofs.Common.{refl, subst, ◌∙◌, arith}
use Rattle.icu_normalizer_core.specs.Decompositions.{DecomposesTo, IsFinished}
use Rattle.icu_normalizer_core.proofs.decomposed_lists.IterLemmas.{keeps_then, not_both, ends_item, ends_error, ends_last}
use Rattle.icu_normalizer_core.proofs.decomposed_lists.CanonicalStepLemmas.{decomposes_done, keeps_popped}
use Rattle.icu_normalizer_core.proofs.decomposition.characters.DecompositionIterator.next.Goals as goal

pub returns-in-Some-clause-steps : goal.returns-in-Some-clause-steps
returns-in-Some-clause-steps g c =
    let keeps = keeps_popped g.I.Iterator.next_gives _ _ _ c.in-Some.ensures.same refl refl c.in-Some.ensures.some in
    record {
      first = record { at = keeps.at };
      ends = ends_item IsFinished _ _ _ (λ f. omega (arith, f.empty, c.in-Some.ensures.fewer));
      again = c.requires;
      size = omega (arith, c.in-Some.ensures.held);
    }

pub returns-in-Err-clause-steps : goal.returns-in-Err-clause-steps
returns-in-Err-clause-steps g c =
    record {
      first = record { at = λ cs left. c.stop.ensures.text };
      ends = ends_error IsFinished _ _ _ (λ f. not_both _ c.loop-self-test.true (c.loop-self.invariant.4 f.done)) c.stop.ensures.finished;
      again = c.stop.ensures.ready;
      size = omega (arith, c.stop.ensures.size);
    }

pub returns-in-Ok-Some-clause-steps : goal.returns-in-Ok-Some-clause-steps
returns-in-Ok-Some-clause-steps g c =
    let pulled = rw c.in-Ok-Some.field-0-is at c.in-Ok-Some.ensures.text in
    let keeps = keeps_then (DecomposesTo g.I.Iterator.next_gives) _ _ _ _ c.loop-self.invariant.0 pulled in
    record {
      first = record { at = keeps.at };
      ends = ends_item IsFinished _ _ _ (λ f. not_both _ c.loop-self-test.true (c.loop-self.invariant.4 f.done));
      again = c.in-Ok-Some.ensures.ready;
      size = omega (arith, c.in-Ok-Some.ensures.size, c.loop-self.invariant.2);
    }

pub returns-in-Some-pop-clause-steps : goal.returns-in-Some-pop-clause-steps
returns-in-Some-pop-clause-steps g c =
    let pulled = keeps_then (DecomposesTo g.I.Iterator.next_gives) _ _ _ _ c.loop-self.invariant.0 (rw c.in-Ok-None.field-0-is at c.in-Ok-None.ensures.text) in
    let keeps = keeps_then (DecomposesTo g.I.Iterator.next_gives) _ _ _ _ pulled (keeps_popped g.I.Iterator.next_gives _ _ _ c.in-Some-pop.ensures.same refl refl c.in-Some-pop.ensures.some) in
    record {
      first = record { at = keeps.at };
      ends = ends_item IsFinished _ _ _ (λ f. not_both _ c.loop-self-test.true (c.loop-self.invariant.4 f.done));
      again = c.in-Ok-None.ensures.ready;
      size = omega (arith, c.in-Ok-None.ensures.size, c.pop-in-loop-self.ensures.held, c.loop-self.invariant.2);
    }

pub loop-self-preserved : goal.loop-self-preserved
loop-self-preserved g c =
    let pulled = keeps_then (DecomposesTo g.I.Iterator.next_gives) _ _ _ _ c.loop-self.invariant.0 (rw c.in-Ok-None.field-0-is at c.in-Ok-None.ensures.text) in (
      keeps_then (DecomposesTo g.I.Iterator.next_gives) _ _ _ _ pulled (keeps_popped g.I.Iterator.next_gives _ _ _ c.in_default-pop.ensures.same refl refl c.in_default-pop.ensures.none.0),
      c.in-Ok-None.ensures.ready,
      omega (arith, c.in-Ok-None.ensures.size, c.pop-in-loop-self.ensures.held, c.loop-self.invariant.2),
      c.in_default-pop.ensures.none.1,
      λ e. absurd (not_both _ c.loop-self-test.true (c.loop-self.invariant.4 e)),
    )

pub returns-clause-steps : goal.returns-clause-steps
returns-clause-steps g c =
    let s = c.loop-self.self in
    let empty = c.loop-self.invariant.3 ∙ s.settled c.loop-self-test.false in
    record {
      first = record {
        at = λ cs left.
            let now = c.loop-self.invariant.0.at cs left in
            let none = decomposes_done g.I.Iterator.next_gives s now.0 c.loop-self-test.false empty now.2 in
            (now.1 ∙ none, subst (DecomposesTo g.I.Iterator.next_gives s) none now.2);
      };
      ends = ends_last IsFinished _ s (record { done = c.loop-self-test.false; empty = empty });
      again = c.loop-self.invariant.1;
      size = c.loop-self.invariant.2;
    }
