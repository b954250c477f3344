use Rattle.std.proofs.Common.{◌++◌, sym, ◌∙◌, subst, MatchOption}
use Rattle.icu_collator_core.specs.Upcoming.{HasUnread}
use Rattle.icu_collator_core.proofs.readings.UpcomingLemmas.{unread_comes, upcoming_spells}
use Rattle.icu_collator_core.proofs.elements.collation_elements.CollationElements.init.Goals as goal

pub returns-clause-elements : goal.returns-clause-elements
returns-clause-elements g c = λ before rest h.
    let steps = g.I.Iterator.next_gives in
    let unread = subst (λ o. MatchOption o ⊥ (λ u. HasUnread steps u before rest)) (sym c.take.ensures.value ∙ c.in-Some.is) h in
    c.in_ok-begin.ensures.left (before ++ rest)
    (upcoming_spells steps g.I.Iterator.can_next g.I.Iterator.remaining c.in-Some.source (before ++ rest) (unread_comes steps c.in-Some.source before rest unread))
