use Rattle.std.proofs.Common.{Option, subst, ℕ}
use Rattle.icu_collator.specs.Aheads.{IsLeft}
use Rattle.icu_collator.proofs.orders.AheadLemmas.{taken_told}
use Rattle.icu_collator.proofs.compare.aheads.take_next.Goals as goal

pub returns-in-None-clause-taken : goal.returns-in-None-clause-taken
returns-in-None-clause-taken g c = λ rest left.
    taken_told g.I.Iterator.next_gives c.args.chars c.next-next.new.self c.next-next.result rest
    (subst (λ (held : Option ℕ). IsLeft g.I.Iterator.next_gives held c.args.chars rest) c.in-None.is left) c.next-next.ensures.steps
