use Rattle.std.proofs.Common.{sym, ◌∙◌}
use Rattle.icu_normalizer_core.proofs.settling.TripleLemmas.{listed_of, listed_none}
use Rattle.icu_normalizer_core.proofs.canonical.steps.listed_step.Goals as goal

pub returns-in-Some : goal.returns-in-Some
returns-in-Some c = c.mapping_at.ensures ∙ sym (listed_of c.args.steps.now c.args.c c.in-Some.index c.requires c.in-Some.ensures.index)

pub returns-in-None : goal.returns-in-None
returns-in-None c = sym (listed_none c.args.steps.now c.args.c c.in-None.ensures.index)
