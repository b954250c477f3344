use Rattle.std.proofs.Common.{subst, MatchOption}
use Rattle.icu_collator_core.specs.Upcoming.{HasUnread}
use Rattle.icu_collator_core.proofs.elements.collation_elements.CollationElements.prepend_upcoming_before_init.Goals as goal

pub returns-in-Ok-clause-before : goal.returns-in-Ok-clause-before
returns-in-Ok-clause-before g c = λ before rest h.
    c.in-Ok.ensures.text before rest (subst (λ o. MatchOption o ⊥ (λ u. HasUnread g.I.Iterator.next_gives u before rest)) c.in-Some.is h)
