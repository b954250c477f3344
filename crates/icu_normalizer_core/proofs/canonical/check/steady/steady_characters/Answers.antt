use Rattle.std.proofs.Common.{rules, ◌≡◌, List, Bool, length, sym, subst}
use Rattle.icu_normalizer_core.specs.CanonicalMeaning.{meaning}
use Rattle.icu_normalizer_core.specs.SteadyAnswers.{AreSteady}
use Rattle.icu_normalizer_core.proofs.settling.SettlingLemmas.{vector_written}
use Rattle.icu_normalizer_core.proofs.canonical.check.steady.steady_characters.Goals as goal

pub returns : goal.returns
returns c =
    let same : length c.refuse_others.new.answers ≡ length c.in_ok-answers.answers.items = search rules in
    let len : c.in_ok-answers.answers.len ≡ length c.in_ok-answers.answers.items = search rules in
    let written = vector_written c.in_ok-answers.answers.len c.refuse_others.new.answers c.in_ok-answers.answers.items same len in
    subst (λ (xs : List Bool). AreSteady (meaning c.args.tables.now) xs) (sym written) c.refuse_others.ensures
