use Rattle.std.proofs.Common.{refl}
use Rattle.icu_normalizer_core.proofs.decomposed_lists.IterLemmas.{source_end, source_next, source_stopped}
use Rattle.icu_collator_core.proofs.elements.upcoming.Upcoming.pull.Goals as goal

pub returns-in-Some-clause-text : goal.returns-in-Some-clause-text
returns-in-Some-clause-text g c = λ before rest h.
    let self = c.args.self.now in
    let next = source_next g.I.Iterator.next_gives self.done self.done self.chars c.next.new.self c.in-Some.c rest c.if-self.false c.in-Some.ensures.steps c.if-self.false h.source in (
      next.0,
      next.1,
      record { before_is = h.before_is; source = next.2 },
    )

pub returns-in-None-clause-text : goal.returns-in-None-clause-text
returns-in-None-clause-text g c = λ before rest h.
    let self = c.args.self.now in (
      source_end g.I.Iterator.next_gives self.done self.chars c.next.new.self rest c.if-self.false c.in-None.ensures.steps h.source,
      record { before_is = h.before_is; source = source_stopped g.I.Iterator.next_gives _ c.next.new.self refl },
    )
