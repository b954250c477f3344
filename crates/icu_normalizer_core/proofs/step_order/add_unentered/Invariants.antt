use Rattle.std.proofs.Common.{◌≡◌, ◌++◌, map, take}
use Rattle.icu_normalizer_core.specs.StepVisits.{to_be_entered}
use Rattle.icu_normalizer_core.proofs.step_order.add_unentered.Given as goal

abbrev pub invariant-loop-c : goal.invariant-loop-c
invariant-loop-c l = l.stack.items ≡ l.initial.stack.items ++ map to_be_entered (take l.c-index l.characters)
