use Rattle.std.proofs.Common.{◌∙◌}
use Rattle.icu_normalizer_core.proofs.settling.SettledLemmas.{start_alone}
use Rattle.icu_normalizer_core.proofs.accepted.TableMeanings.{step_in_free}
use Rattle.icu_normalizer_core.proofs.settling.TripleLemmas.{listed_none}
use Rattle.icu_normalizer_core.proofs.canonical.check.settle.listed_left.Goals as goal

pub returns-in-None : goal.returns-in-None
returns-in-None c =
    start_alone c.args.steps.now c.args.c c.one.result
    (step_in_free c.args.steps.now c.args.c c.requires.free ∙ listed_none c.args.steps.now c.args.c c.in-None.ensures.index) c.one.ensures
