use Rattle.std.proofs.Common.{sym, ◌∙◌}
use Rattle.icu_normalizer_core.specs.FormData.{form_meaning}
use Rattle.icu_normalizer.proofs.composed.LoneMarkLemmas.{composed_lone}
use Rattle.icu_normalizer.proofs.composing.lone_mark.composed_lone.Goals as goal

pub returns-then-is_steady_up_to-clause-form : goal.returns-then-is_steady_up_to-clause-form
returns-then-is_steady_up_to-clause-form c =
    composed_lone (form_meaning c.args.basis) c.args.letter c.args.mark c.args.class c.requires.mark.0 c.requires.mark.1 (c.is_steady_up_to.ensures c.if-is_steady_up_to.true)
    ∙ sym c.composed_pair.ensures.form
