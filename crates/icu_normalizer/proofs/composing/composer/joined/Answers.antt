use Rattle.std.proofs.Common.{sym, ◌∙◌, arith, inl, inr}
use Rattle.icu_normalizer_core.specs.FormData.{form_meaning}
use Rattle.icu_normalizer.proofs.composed.ComposingLemmas.{composed_over, composed_not, composed_low}
use Rattle.icu_normalizer.proofs.composing.composer.joined.Goals as goal

pub returns-then-c-lt768 : goal.returns-then-c-lt768
returns-then-c-lt768 c = λ between up. sym (composed_low (form_meaning c.args.basis) c.args.starter between c.args.c c.requires.composable.0 c.if-c-lt768.true)

pub returns : goal.returns
returns c =
    λ between up.
    c.compose.ensures
    ∙ sym (composed_over (form_meaning c.args.basis) c.args.starter between c.args.c c.args.highest up (λ some. elim c.else-highest-gt0.either [ inl above ↦ omega (arith, above.1, c.requires.class) | inr none ↦ omega (arith, none, some) ]))

pub returns-then-class-highest : goal.returns-then-class-highest
returns-then-class-highest c =
    λ between up.
    sym (composed_not (form_meaning c.args.basis) c.args.starter between c.args.c c.args.highest up c.if-highest-gt0.true (omega (arith, c.if-class-highest.true, c.requires.class)))
