use Rattle.std.proofs.Common.{◌≡◌, ℕ, rules, subst}
use Rattle.icu_collator_core.specs.FlatSteps.{StepsTo}
use Rattle.icu_collator.proofs.compare.flat.step_of_second.Goals as goal

pub returns-then-before-class : goal.returns-then-before-class
returns-then-before-class c =
    let args = c.args in
    let same : args.first ≡ args.second = search rules in
    let behind : args.before ≡ args.class = search rules in
    subst (λ (n : ℕ). StepsTo args.checked.now args.numeric n args.class args.step.0 args.step.1) same
    (subst (λ (n : ℕ). StepsTo args.checked.now args.numeric args.first n args.step.0 args.step.1) behind c.requires)
