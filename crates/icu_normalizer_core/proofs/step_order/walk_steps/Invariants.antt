use Rattle.std.proofs.Common.{◌+◌, ◌<◌, length}
use Rattle.std.specs.List.{All}
use Rattle.std.specs.Ordering.{nat_cmp}
use Rattle.std.specs.BTreeMap.{get}
use Rattle.icu_normalizer_core.specs.StepVisits.{IsWalking, work}
use Rattle.icu_normalizer_core.proofs.step_order.walk_steps.Given as goal

abbrev pub invariant-loop-visit : goal.invariant-loop-visit
invariant-loop-visit g l = record {
  walking : IsWalking (g.S.Steps.step l.steps) l.starts l.order.items (λ c. get nat_cmp l.is_left c) l.stack.items;
  in_range : All (λ c. c < 1114112) l.order.items;
}

abbrev pub decreases-loop-visit : goal.decreases-loop-visit
decreases-loop-visit g l = work (g.S.Steps.step l.steps) (λ c. get nat_cmp l.is_left c) 0x110000 + length l.stack.items
