use Rattle.std.proofs.Common.{sym}
use Rattle.icu_normalizer_core.specs.FormData.{form_meaning}
use Rattle.icu_normalizer.proofs.composed.LoneMarkLemmas.{pair_joined, pair_kept, never_first}
use Rattle.icu_normalizer.proofs.composing.lone_mark.composed_pair.Goals as goal

pub returns-in-Some-clause-form : goal.returns-in-Some-clause-form
returns-in-Some-clause-form c = sym (pair_joined (form_meaning c.args.basis) c.args.letter c.args.mark c.in-Some.composed (sym c.in-Some.ensures))

pub returns-in-Some-clause-made : goal.returns-in-Some-clause-made
returns-in-Some-clause-made c =
    never_first (form_meaning c.args.basis) c.keep_promise.ensures.forming c.args.letter c.args.mark c.in-Some.composed c.requires.itself (sym c.in-Some.ensures)

pub returns-in-None-clause-form : goal.returns-in-None-clause-form
returns-in-None-clause-form c = sym (pair_kept (form_meaning c.args.basis) c.args.letter c.args.mark (sym c.in-None.ensures) c.requires.mark)
