use Rattle.std.proofs.Common.{◌≡◌, take}
use Rattle.collate_rules.specs.CanonicalParts.{step_items}
use Rattle.collate_rules.proofs.step.Step.of_list.Given as goal

abbrev pub invariant-loop-c : goal.invariant-loop-c
invariant-loop-c l = (step_items l.step ≡ take l.c-index l.mapping) × (l.step.count ≡ l.c-index)
