use Rattle.std.proofs.Common.{◌≡◌, ℕ, Some, [], ◌∷◌, sym, ap, ◌∙◌, arith}
use Rattle.icu_normalizer_core.specs.declared.decomposed.Decomposed.{Decomposed}
use Rattle.icu_normalizer_core.specs.BuiltIn.{built_in_step}
use Rattle.icu_normalizer_core.specs.Properties.{mapped_to}
use Rattle.icu_normalizer_core.proofs.built.BuiltInFacts.{letters_short}
use Rattle.icu_normalizer_core.proofs.accepted.TableMeanings.{step_in_built_in}
use Rattle.icu_normalizer_core.proofs.settling.SettledLemmas.{start_alone, start_letters, built_in_free, single_left, double_left, single_stuck, first_stuck, second_stuck}
use Rattle.icu_normalizer_core.proofs.canonical.check.settle.built_in_left.Goals as goal

said : (c : ℕ) (step other : Decomposed) → built_in_step c ≡ Some (mapped_to step) → step ≡ other → built_in_step c ≡ Some (mapped_to other)
said c step other e is = e ∙ ap (λ (s : Decomposed). Some (mapped_to s)) is

pub returns-then-is_syllable : goal.returns-then-is_syllable
returns-then-is_syllable c =
    let short = letters_short c.args.c in
    start_letters c.args.steps.now c.args.c c.letters.result (sym c.is_syllable.ensures ∙ c.if-is_syllable.true) c.letters.ensures (omega arith)

pub listed_left-requires-clause-free : goal.listed_left-requires-clause-free
listed_left-requires-clause-free c =
    (built_in_free c.args.c (c.in-Singleton.a ∷ []) (said c.args.c c.args.step _ c.requires.built_in c.in-Singleton.is) (sym c.is_syllable.ensures ∙ c.if-is_syllable.false)).0

pub listed_left-requires-in-Expansion-clause-free : goal.listed_left-requires-in-Expansion-clause-free
listed_left-requires-in-Expansion-clause-free c =
    (built_in_free c.args.c (c.in-Expansion.a ∷ c.in-Expansion.b ∷ []) (said c.args.c c.args.step _ c.requires.built_in c.in-Expansion.is) (sym c.is_syllable.ensures ∙ c.if-is_syllable.false)).0

pub listed_left-requires-in-Expansion-2-clause-free : goal.listed_left-requires-in-Expansion-2-clause-free
listed_left-requires-in-Expansion-2-clause-free c =
    (built_in_free c.args.c (c.in-Expansion.a ∷ c.in-Expansion.b ∷ []) (said c.args.c c.args.step _ c.requires.built_in c.in-Expansion.is) (sym c.is_syllable.ensures ∙ c.if-is_syllable.false)).1.0

pub returns-in-Default : goal.returns-in-Default
returns-in-Default c = start_alone c.args.steps.now c.args.c c.one.result (step_in_built_in c.args.steps.now c.args.c [] (said c.args.c c.args.step _ c.requires.built_in c.in-Default.is)) c.one.ensures

pub returns-in_default : goal.returns-in_default
returns-in_default c =
    single_stuck c.args.steps.now c.args.settled.now c.args.c c.in-Singleton.a (said c.args.c c.args.step _ c.requires.built_in c.in-Singleton.is) c.in_default.ensures

pub returns-in_default-listed_left : goal.returns-in_default-listed_left
returns-in_default-listed_left c =
    first_stuck c.args.steps.now c.args.settled.now c.args.c c.in-Expansion.a c.in-Expansion.b (said c.args.c c.args.step _ c.requires.built_in c.in-Expansion.is) c.in_default-listed_left.ensures

pub returns-in_default-listed_left-2 : goal.returns-in_default-listed_left-2
returns-in_default-listed_left-2 c =
    second_stuck c.args.steps.now c.args.settled.now c.args.c c.in-Expansion.a c.in-Expansion.b (said c.args.c c.args.step _ c.requires.built_in c.in-Expansion.is) c.in_default-listed_left-2.ensures

pub returns-in-Some : goal.returns-in-Some
returns-in-Some c = single_left c.args.steps.now c.args.c c.in-Singleton.a c.in-Some.left (said c.args.c c.args.step _ c.requires.built_in c.in-Singleton.is) c.in-Some.ensures

pub returns-in-Some-listed_left-2 : goal.returns-in-Some-listed_left-2
returns-in-Some-listed_left-2 c =
    double_left c.args.steps.now c.args.c c.in-Expansion.a c.in-Expansion.b c.in-Some-listed_left.first c.in-Some-listed_left-2.second c.joined.result
    (said c.args.c c.args.step _ c.requires.built_in c.in-Expansion.is) c.in-Some-listed_left.ensures c.in-Some-listed_left-2.ensures c.joined.ensures
