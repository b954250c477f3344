use Rattle.icu_normalizer.proofs.uts46.iter.Uts46IterIterator.next.Goals as goal

pub returns-clause-steps : goal.returns-clause-steps
returns-clause-steps g c =
    let step = c.next.ensures.steps in
    record {
      first = record { at = step.first.at };
      ends = record { finished = step.ends.finished; last = step.ends.last; ended = step.ends.ended; stays = step.ends.stays };
      again = step.again;
      size = step.size;
    }
