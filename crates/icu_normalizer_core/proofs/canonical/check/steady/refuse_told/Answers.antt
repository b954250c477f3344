use Rattle.std.proofs.Common.{rules, ◌≡◌, ℕ, ⊎_elim, sym, subst, arith}
use Rattle.std.specs.Char.{IsScalar}
use Rattle.std.proofs.lemmas.Bool.{cases_lt}
use Rattle.icu_normalizer_core.specs.Boundaries.{IsSteady}
use Rattle.icu_normalizer_core.specs.CanonicalMeaning.{lists_of, meaning}
use Rattle.icu_normalizer_core.specs.SteadyAnswers.{SaysYes}
use Rattle.icu_normalizer_core.proofs.accepted.AcceptedForms.{accepted_pairs}
use Rattle.icu_normalizer_core.proofs.accepted.AcceptedTables.{full_bounded}
use Rattle.icu_normalizer_core.proofs.decoded.ScalarLemmas.{scalar_below}
use Rattle.icu_normalizer_core.proofs.composed.SteadyLemmas.{plain_steady}
use Rattle.icu_normalizer_core.proofs.composed.SyllableLemmas.{syllable_steady}
use Rattle.icu_normalizer_core.proofs.canonical.check.steady.refuse_told.Goals as goal
use Rattle.icu_normalizer_core.proofs.canonical.check.steady.refuse_told.Goals.{in-Some, in_default}

pub refuse_unsteady-requires-clause-pairs : goal.refuse_unsteady-requires-clause-pairs
refuse_unsteady-requires-clause-pairs c = accepted_pairs (lists_of c.args.tables.now) c.requires.accepted

pub refuse_unsteady-requires-clause-short : goal.refuse_unsteady-requires-clause-short
refuse_unsteady-requires-clause-short c =
    let at = c.in-Some.ensures.value.1 in
    full_bounded (lists_of c.args.tables.now) c.requires.accepted c.in-Some.c (subst IsScalar (sym at) c.in-Some.ensures.value.0)

pub loop-code-preserved : goal.loop-code-preserved
loop-code-preserved c = elim c.match-from_u32.branch [
  | in-Some w ↦ record {
    among = λ d yes. c.loop-code.invariant.among d (w.refuse_unsteady.ensures.among d (subst (λ xs. SaysYes xs d) w.answers-is yes));
    steady = λ i d lt scalar at yes.
        let said = subst (λ xs. SaysYes xs d) w.answers-is yes in
        ⊎_elim
        (λ before. c.loop-code.invariant.steady i d before scalar at (w.refuse_unsteady.ensures.among d said))
        (λ ge.
        let here : i ≡ c.loop-code.code-index = omega (arith, lt, ge) in
        let same : w.in-Some.c ≡ d = search rules in
        subst (λ (k : ℕ). IsSteady (meaning c.args.tables.now) k) same (w.refuse_unsteady.ensures.steady (subst (λ (k : ℕ). SaysYes w.refuse_unsteady.new.answers k) (sym same) said)))
        (cases_lt i c.loop-code.code-index);
  }
  | in_default w ↦ record {
    among = λ d yes. c.loop-code.invariant.among d (subst (λ xs. SaysYes xs d) w.answers-is yes);
    steady = λ i d lt scalar at yes.
        let said = subst (λ xs. SaysYes xs d) w.answers-is yes in
        ⊎_elim
        (λ before. c.loop-code.invariant.steady i d before scalar at said)
        (λ ge.
        let here : i ≡ c.loop-code.code-index = omega (arith, lt, ge) in
        absurd (w.in_default.ensures.value (search rules)))
        (cases_lt i c.loop-code.code-index);
  }
]

pub returns : goal.returns
returns c = λ d scalar yes.
    ⊎_elim
    (λ told. c.loop-code.invariant.steady told.0 d (let lt = told.1 in let end = c.loop-code-test.false in search rules) scalar told.2 yes)
    (λ untold. ⊎_elim
    (λ plain. plain_steady (lists_of c.args.tables.now) d plain (λ a. c.requires.seconds d a (c.loop-code.invariant.among d yes)))
    (λ syllable. syllable_steady (lists_of c.args.tables.now) c.requires.accepted d syllable)
    untold)
    (c.requires.tells.words d (scalar_below d scalar))
