use Rattle.std.proofs.Common.{subst, MatchOption}
use Rattle.icu_collator_core.specs.Upcoming.{HasUnread}
use Rattle.icu_collator_core.proofs.elements.collation_elements.CollationElements.iter_next_before_init.Goals as goal

pub returns-in-Some-clause-first : goal.returns-in-Some-clause-first
returns-in-Some-clause-first g c = λ before rest h.
    c.pull.ensures.text before rest (subst (λ o. MatchOption o ⊥ (λ u. HasUnread g.I.Iterator.next_gives u before rest)) c.in-Some.is h)
