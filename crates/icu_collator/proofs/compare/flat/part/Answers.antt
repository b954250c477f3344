use Rattle.icu_collator.proofs.compare.flat.part.Goals as goal

pub returns : goal.returns
returns g c = λ told a b lefts rights one two.
    (c.is_settled.ensures c.if-not-is_settled.false a lefts one, c.is_settled-2.ensures told b rights two)
