use Rattle.std.proofs.Common.{◌≡◌, ◌<◌, ℕ, arith}
use Rattle.std.specs.Char.{IsScalar}
use Rattle.icu_normalizer_core.proofs.decoded.ScalarLemmas.{scalar_below}
use Rattle.icu_collator_core.proofs.checks.CheckedTestLemmas.{below_later, found_none, found_some}
use Rattle.icu_collator_core.proofs.check.refused_characters.first_refused_in.Goals as goal

pub loop-code-init : goal.loop-code-init
loop-code-init g c = record { bound = omega arith; passed = λ d scalar less. absurd (omega (arith, less)) }

pub returns-in-Some : goal.returns-in-Some
returns-in-Some g c =
    let Passes : ℕ → Type 0 = λ d. g.T.CharacterTest.Passes c.args.test.now c.args.layer c.args.source.now d in
    let w = found_some (IsScalar c.loop-code.code → Passes c.loop-code.code) (λ d. (d ≡ c.loop-code.code) × IsScalar d × (Passes d → ⊥))
    c.in_ok-found.found c.in-Some.c c.in-Some.is c.in_ok-found.ensures in (
      w.1,
      w.2,
      λ d scalar less refused. refused (c.loop-code.invariant.passed d scalar (let same = w.0 in omega (arith, same, less))),
    )

pub loop-code-preserved : goal.loop-code-preserved
loop-code-preserved g c =
    let Passes : ℕ → Type 0 = λ d. g.T.CharacterTest.Passes c.args.test.now c.args.layer c.args.source.now d in
    record {
      bound = c.next_code-code.ensures.bound;
      passed = below_later Passes c.loop-code.code c.next_code-code.result c.loop-code.invariant.passed
          (found_none (IsScalar c.loop-code.code → Passes c.loop-code.code) (λ d. (d ≡ c.loop-code.code) × IsScalar d × (Passes d → ⊥))
          c.in_ok-found.found c.in_default.is c.in_ok-found.ensures)
          c.next_code-code.ensures.passed;
    }

pub returns : goal.returns
returns g c = λ d scalar.
    let bound : d < 0x110000 = scalar_below d scalar in
    c.loop-code.invariant.passed d scalar (let end = c.loop-code-test.false in omega arith)
