use Rattle.std.proofs.Common.{rules, ◌≡◌, ◌∷◌, ◌++◌, [], sym, subst}
use Rattle.icu_normalizer_core.specs.CanonicalMeaning.{lists_of}
use Rattle.icu_normalizer_core.specs.Compatibility.{compatibility_of}
use Rattle.icu_normalizer_core.specs.SteadyAnswers.{AreSteady}
use Rattle.icu_normalizer_core.specs.Words.{word_lists}
use Rattle.icu_normalizer_core.proofs.compatible.SteadyCompatibilityLemmas.{steady_more}
use Rattle.icu_normalizer_core.proofs.compatibility.check.steady.steady_characters.Goals as goal

pub loop-code-preserved : goal.loop-code-preserved
loop-code-preserved c =
    let canonical = compatibility_of (lists_of c.args.canonical.now) (word_lists c.args.words) in
    let one = c.is_steady_code.result in
    let pushed : c.push.new.self.items ≡ c.loop-code.answers.items ++ one ∷ [] = search rules in
    record {
      count = search rules;
      steady = subst (AreSteady canonical) (sym pushed)
          (steady_more canonical c.loop-code.answers.items one c.loop-code.code c.loop-code.invariant.count c.loop-code.invariant.steady c.is_steady_code.ensures);
    }
