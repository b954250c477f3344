use Rattle.std.proofs.Common.{◌∙◌, ap, sym}
use Rattle.icu_collator_core.specs.Numbers.{significant}
use Rattle.icu_collator_core.proofs.numbers.NumberPartLemmas.{zero_gone, one_is_significant, none_is_gone}
use Rattle.icu_collator_core.proofs.reading.numbers.significant.Goals as goal

pub zeros-preserved : goal.zeros-preserved
zeros-preserved c =
    ap significant c.split_at.ensures.back
    ∙ zero_gone c.zeros.rest.now c.zeros-test.true c.if-rest-eq0.true
    ∙ c.zeros.invariant

pub returns-else-rest-eq0 : goal.returns-else-rest-eq0
returns-else-rest-eq0 c = sym (none_is_gone c.zeros.rest.now c.if-rest-eq0.false) ∙ c.zeros.invariant

pub returns-after-zeros : goal.returns-after-zeros
returns-after-zeros c = sym (one_is_significant c.zeros.rest.now c.zeros-test.false) ∙ c.zeros.invariant
