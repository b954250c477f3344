use Rattle.std.proofs.Common.{arith}
use Rattle.std.proofs.lemmas.Bool.Decides.{nat_tests}
use Rattle.icu_normalizer_core.specs.FormData.{form_meaning}
use Rattle.icu_normalizer.proofs.noted.FormNoteLemmas.{steady_noted}
use Rattle.icu_normalizer.proofs.composing.lone_mark.is_steady_up_to.Goals as goal

pub returns-then-note : goal.returns-then-note
returns-then-note c = λ yes.
    steady_noted (form_meaning c.args.basis) c.args.c c.args.class c.in-Some.note (c.in-Some.ensures (form_meaning c.args.basis) c.requires) c.if-note.true
    (grind (arith, nat_tests, yes))
