use Rattle.std.proofs.Common.{◌≡◌, ◌<◌, ℕ, true, ⊎_elim, sym, subst, ◌∙◌, arith}
use Rattle.std.specs.Char.{IsScalar}
use Rattle.std.proofs.lemmas.Bool.{cases_lt, false≢true}
use Rattle.icu_normalizer_core.proofs.decoded.ScalarLemmas.{scalar_below}
use Rattle.icu_normalizer.specs.Uts46.{has_good_word}
use Rattle.icu_normalizer.proofs.uts46.table.has_good_words.Goals as goal
use Rattle.icu_normalizer.proofs.uts46.table.has_good_words.Goals.{in-Some+else-not-has_good_word, in_default}

pub returns-then-not-has_good_word-clause-bad : goal.returns-then-not-has_good_word-clause-bad
returns-then-not-has_good_word-clause-bad c = λ bad all.
    let at : c.in-Some.c ≡ c.loop-code.code = c.in-Some.ensures.value.1 in
    false≢true (sym c.if-not-has_good_word.true ∙ c.has_good_word.ensures ∙ all c.in-Some.c (subst IsScalar (sym at) c.in-Some.ensures.value.0))

pub loop-code-preserved : goal.loop-code-preserved
loop-code-preserved c = λ d scalar lt.
    ⊎_elim
    (λ before. c.loop-code.invariant d scalar before)
    (λ here.
    let at : d ≡ c.loop-code.code = omega arith in
    elim c.match-from_u32.branch [
      | in-Some+else-not-has_good_word w ↦
          let is : w.in-Some.c ≡ c.loop-code.code = w.in-Some.ensures.value.1 in
          subst (λ (k : ℕ). has_good_word c.args.tables.now k ≡ true) (is ∙ sym at) (sym w.has_good_word.ensures ∙ w.if-not-has_good_word.false)
      | in_default w ↦ absurd (w.in_default.ensures.value (subst IsScalar at scalar))
    ])
    (cases_lt d c.loop-code.code)

pub returns-clause-good : goal.returns-clause-good
returns-clause-good c = λ good d scalar.
    let bound : d < 0x110000 = scalar_below d scalar in
    c.loop-code.invariant d scalar (let end = c.loop-code-test.false in omega arith)
