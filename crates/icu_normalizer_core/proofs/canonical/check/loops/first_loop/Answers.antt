use Rattle.icu_normalizer_core.specs.CanonicalMeaning.{lists_of}
use Rattle.icu_normalizer_core.proofs.settling.EndingLemmas.{NoneOpen, each_ends}
use Rattle.icu_normalizer_core.proofs.faults.FaultLemmas.{left_from}
use Rattle.icu_normalizer_core.proofs.canonical.check.loops.first_loop.Goals as goal

pub returns-then-are_settled : goal.returns-then-are_settled
returns-then-are_settled c = λ d scalar.
    let none : NoneOpen c.args.tables.now.steps c.args.settled.now = λ i h free e. c.are_settled.ensures.0 c.if-are_settled.true i e in
    let ends = each_ends c.args.tables.now.steps c.args.settled.now c.requires.triples c.requires.starts none d in
    (ends.0, left_from (lists_of c.args.tables.now) d ends.0 ends.1)
