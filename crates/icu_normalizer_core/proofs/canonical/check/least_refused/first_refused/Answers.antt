use Rattle.std.proofs.Common.{◌≡◌, ◌<◌, ℕ, Bool, true, ⊎_elim, sym, subst, ◌∙◌, arith}
use Rattle.std.specs.Char.{IsScalar}
use Rattle.std.proofs.lemmas.Bool.{cases_lt}
use Rattle.icu_normalizer_core.proofs.decoded.ScalarLemmas.{scalar_below}
use Rattle.icu_normalizer_core.proofs.canonical.check.least_refused.first_refused.Goals as goal
use Rattle.icu_normalizer_core.proofs.canonical.check.least_refused.first_refused.Goals.{in-Some+else-not-accepts, in_default}

pub returns-then-not-accepts : goal.returns-then-not-accepts
returns-then-not-accepts g c =
    let at : c.in-Some.c ≡ c.loop-code.code = c.in-Some.ensures.value.1 in
    let s : IsScalar c.in-Some.c = subst IsScalar (sym at) c.in-Some.ensures.value.0 in (
      s,
      subst (λ (b : Bool). goal.F-post g c.args.accepts c.in-Some.c b) c.if-not-accepts.true c.accepts.ensures,
      λ d scalar lt. c.loop-code.invariant d scalar (omega arith),
    )

pub loop-code-preserved : goal.loop-code-preserved
loop-code-preserved g c = λ d scalar lt.
    ⊎_elim
    (λ before. c.loop-code.invariant d scalar before)
    (λ here.
    let at : d ≡ c.loop-code.code = omega arith in
    elim c.match-from_u32.branch [
      | in-Some+else-not-accepts w ↦
          let is : w.in-Some.c ≡ c.loop-code.code = w.in-Some.ensures.value.1 in
          let yes = subst (λ (b : Bool). goal.F-post g c.args.accepts w.in-Some.c b) w.if-not-accepts.false w.accepts.ensures in
          subst (λ (k : ℕ). goal.F-post g c.args.accepts k true) (is ∙ sym at) yes
      | in_default w ↦ absurd (w.in_default.ensures.value (subst IsScalar at scalar))
    ])
    (cases_lt d c.loop-code.code)

pub returns : goal.returns
returns g c = λ d scalar.
    let bound : d < 0x110000 = scalar_below d scalar in
    c.loop-code.invariant d scalar (let end = c.loop-code-test.false in omega arith)
