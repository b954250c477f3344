use Rattle.std.proofs.Common.{rules, inr, ⊎_elim, sym, ◌∙◌}
use Rattle.icu_normalizer_core.specs.Canonical.{IsFree}
use Rattle.icu_normalizer_core.specs.CanonicalMeaning.{lists_of}
use Rattle.icu_normalizer_core.proofs.faults.FaultLemmas.{bool_tells, own_good}
use Rattle.icu_normalizer_core.proofs.canonical.check.full_lists.is_good.Goals as goal

pub returns-then-not-may_have_triple-clause-good : goal.returns-then-not-may_have_triple-clause-good
returns-then-not-may_have_triple-clause-good c = λ good w.
    ⊎_elim (λ zero. zero.1 c.requires.triples)
    (λ bad. own_good (lists_of c.args.tables.now) c.args.c (sym c.word.ensures.word ∙ c.if-word-eq0.true) bad.0 (c.may_have_triple.ensures c.if-not-may_have_triple.true) bad.1) w

pub returns-in-None-clause-good : goal.returns-in-None-clause-good
returns-in-None-clause-good c = λ good w.
    ⊎_elim (λ zero. zero.1 c.requires.triples) (λ bad. (bool_tells c.has_good_list.result c.has_good_list.ensures).0 good bad.1) w

pub returns-in-None-clause-bad : goal.returns-in-None-clause-bad
returns-in-None-clause-bad c = λ bad.
    let free : IsFree c.args.c = search rules in
    inr (free, (bool_tells c.has_good_list.result c.has_good_list.ensures).1 bad)
