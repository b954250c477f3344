use Rattle.std.proofs.Common.{length, refl, subst, ap, ◌∙◌, arith}
use Rattle.icu_normalizer_core.proofs.decomposed_lists.IterLemmas.{keeps_then}
use Rattle.icu_normalizer.specs.Uts46Iter.{MapsTo}
use Rattle.icu_normalizer.proofs.noted.MappedLemmas.{mapped_popped, mapped_done}
use Rattle.icu_normalizer.proofs.uts46.mapped_characters.MappedCharsIterator.next.Goals as goal

pub returns-in-Some-clause-steps : goal.returns-in-Some-clause-steps
returns-in-Some-clause-steps g c =
    let popped = mapped_popped g.I.Iterator.next_gives c.loop-self.self _ refl refl (λ text. refl) c.in-Some.c c.in-Some.ensures.steps in
    let keeps = keeps_then (MapsTo g.I.Iterator.next_gives) _ _ _ _ c.loop-self.invariant.0 popped in
    let fewer = ap length c.in-Some.ensures.steps in
    record {
      at = keeps.at;
      again = c.loop-self.invariant.1;
      size = omega (arith, fewer, c.loop-self.invariant.2);
    }

pub returns-clause-steps : goal.returns-clause-steps
returns-clause-steps g c =
    let s = c.loop-self.self in
    record {
      at = λ cs left.
          let now = c.loop-self.invariant.0.at cs left in
          let none = mapped_done g.I.Iterator.next_gives s now.0 c.loop-self-test.false (s.settled c.loop-self-test.false) now.2 in
          (now.1 ∙ none, subst (MapsTo g.I.Iterator.next_gives s) none now.2);
      again = c.loop-self.invariant.1;
      size = c.loop-self.invariant.2;
    }
