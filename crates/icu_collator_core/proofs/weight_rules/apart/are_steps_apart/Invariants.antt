use Rattle.std.proofs.Common.{◌≡◌, drop}
use Rattle.icu_collator_core.specs.WeightLists.{are_steps_apart}
use Rattle.icu_collator_core.proofs.weight_rules.apart.are_steps_apart.Given as goal

abbrev pub invariant-loop-index : goal.invariant-loop-index
invariant-loop-index l = are_steps_apart 0 l.weights ≡ are_steps_apart l.before (drop l.index l.weights)
