use Rattle.std.proofs.Common.{rules, subst, sym}
use Rattle.std.specs.List.{AllByRecursion}
use Rattle.icu_collator_core.specs.PlainWords.{IsUnprefixed}
use Rattle.icu_collator.specs.Collators.{source_collation}
use Rattle.icu_collator.proofs.common_front.passage.goes_on.Goals as goal

pub loop-d-init : goal.loop-d-init
loop-d-init c = λ all. subst (AllByRecursion (IsUnprefixed (source_collation c.args.checked.now).weights)) (search rules) all

pub loop-d-preserved : goal.loop-d-preserved
loop-d-preserved c = λ all.
    c.loop-d.invariant
    (subst (AllByRecursion (IsUnprefixed (source_collation c.args.checked.now).weights)) (sym c.in-Some.ensures.steps)
    (c.is_unprefixed.ensures c.if-not-is_unprefixed.false, all))

pub returns : goal.returns
returns c = λ _.
    c.loop-d.invariant (subst (AllByRecursion (IsUnprefixed (source_collation c.args.checked.now).weights)) (sym c.in-None.ensures.steps.0) tt)
