use Rattle.icu_collator_core.proofs.checks.CheckedTestLemmas.{after_yes}
use Rattle.icu_collator_core.proofs.check.indices.is_inside.Goals as goal

pub returns : goal.returns
returns c =
    after_yes c.in_ok-unprefixed.unprefixed c.in_ok-prefixed.prefixed c.if-not-unprefixed.false c.in_ok-unprefixed.ensures c.in_ok-prefixed.ensures
