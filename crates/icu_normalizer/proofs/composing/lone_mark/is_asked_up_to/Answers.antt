use Rattle.icu_normalizer_core.specs.FormData.{form_meaning}
use Rattle.icu_normalizer.proofs.composed.LoneMarkLemmas.{steady_up_to_low}
use Rattle.icu_normalizer.proofs.composing.lone_mark.is_asked_up_to.Goals as goal

pub returns-then-c-lt160 : goal.returns-then-c-lt160
returns-then-c-lt160 c = λ _. steady_up_to_low (form_meaning c.args.basis) c.keep_promise.ensures.forming c.args.c c.args.class c.if-c-lt160.true
