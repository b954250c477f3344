use Rattle.std.proofs.Common.{◌∷◌, refl, sym, ap, ◌∙◌}
use Rattle.icu_normalizer_core.specs.BorrowedMeaning.{borrowed_meaning}
use Rattle.icu_normalizer_core.specs.Classes.{with_classes, IsFinished}
use Rattle.icu_normalizer_core.proofs.decomposed_lists.IterLemmas.{ended_not, ends_item, ends_error, ends_last}
use Rattle.icu_normalizer_core.proofs.decomposition.classed.ClassedIterator.next.Goals as goal

pub returns-in-Some-Ok-clause-steps : goal.returns-in-Some-Ok-clause-steps
returns-in-Some-Ok-clause-steps g c =
    let canonical = borrowed_meaning c.args.self.now.canonical in
    let step = rw c.in-Some-Ok.field-0-is at c.in-Some-Ok.ensures.steps in
    record {
      first = record {
        at = λ cs left.
            let next = step.first.at left.unread left.source in (
              with_classes canonical next.0,
              left.text ∙ ap (with_classes canonical) next.1 ∙ ap (λ k. (c.in-Some-Ok.c, k) ∷ with_classes canonical next.0) (sym c.class.ensures),
              record { unread = next.0; source = next.2; text = refl },
            );
      };
      ends = ends_item IsFinished _ _ _ (λ f. ended_not _ _ _ _ step.ends f);
      again = step.again;
      size = step.size;
    }

pub returns-in-Some-Err-clause-steps : goal.returns-in-Some-Err-clause-steps
returns-in-Some-Err-clause-steps g c =
    let step = rw c.in-Some-Err.field-0-is at c.in-Some-Err.ensures.steps in
    record {
      first = record { at = λ cs left. record { unread = _; source = step.first.at left.unread left.source; text = refl } };
      ends = ends_error IsFinished _ _ _ (λ f. ended_not _ _ _ _ step.ends f) step.ends.finished;
      again = step.again;
      size = step.size;
    }

pub returns-in-None-clause-steps : goal.returns-in-None-clause-steps
returns-in-None-clause-steps g c =
    let canonical = borrowed_meaning c.args.self.now.canonical in
    let step = c.in-None.ensures.steps in
    record {
      first = record {
        at = λ cs left.
            let none = step.first.at left.unread left.source in (
              left.text ∙ ap (with_classes canonical) none.0,
              record { unread = _; source = none.1; text = refl },
            );
      };
      ends = ends_last IsFinished _ _ step.ends.last;
      again = step.again;
      size = step.size;
    }
