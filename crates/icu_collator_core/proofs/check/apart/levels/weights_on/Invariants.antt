use Rattle.std.proofs.Common.{◌≡◌, map, take}
use Rattle.icu_collator_core.specs.Pools.{element_of}
use Rattle.icu_collator_core.specs.WeightLists.{weight_on}
use Rattle.icu_collator_core.proofs.check.apart.levels.weights_on.Given as goal

abbrev pub invariant-loop-index : goal.invariant-loop-index
invariant-loop-index l = l.weights.items ≡ map (λ bits. weight_on l.level (element_of bits)) (take l.index l.elements)
