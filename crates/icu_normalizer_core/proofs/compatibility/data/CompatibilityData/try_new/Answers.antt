use Rattle.std.proofs.Common.{rules, subst}
use Rattle.icu_normalizer_core.specs.CanonicalFaults.{IsAccepted}
use Rattle.icu_normalizer_core.specs.CanonicalMeaning.{lists_of}
use Rattle.icu_normalizer_core.specs.Compatibility.{compatibility_of}
use Rattle.icu_normalizer_core.specs.CompatibilityFaults.{AreAcceptedWords}
use Rattle.icu_normalizer_core.specs.CompatibilityMeaning.{nfkd_lists}
use Rattle.icu_normalizer_core.specs.SteadyAnswers.{AreSteady}
use Rattle.icu_normalizer_core.specs.Words.{WordLists}
use Rattle.icu_normalizer_core.proofs.compatibility.data.CompatibilityData.try_new.Goals as goal

pub invariant_of-result : goal.invariant_of-result
invariant_of-result c =
    let accepted : IsAccepted (lists_of c.args.canonical) = search rules in
    let words : AreAcceptedWords (lists_of c.args.canonical) (nfkd_lists c.args.tables) = search rules in
    let steady = subst (λ (ws : WordLists). AreSteady (compatibility_of (lists_of c.args.canonical) ws) c.in_ok-steady-in-None.steady.answers.items) c.words-in-None.ensures c.in_ok-steady-in-None.ensures in
    (accepted, words, steady)
