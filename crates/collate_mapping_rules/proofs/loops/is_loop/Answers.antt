use Rattle.std.proofs.Common.{subst}
use Rattle.icu_normalizer_core.specs.StepOrder.{IsWalk}
use Rattle.icu_normalizer_core.proofs.steps.StepOrderLemmas.{no_loop_in_order}
use Rattle.collate_mapping_rules.proofs.loops.is_loop.Goals as goal

pub returns-in-Loop : goal.returns-in-Loop
returns-in-Loop c = λ step starts walk. (_, subst (IsWalk step starts) c.in-Loop.is walk)

pub returns-in-InOrder : goal.returns-in-InOrder
returns-in-InOrder c = λ step starts walk d at loop.
    let ordered = subst (IsWalk step starts) c.in-InOrder.is walk in
    no_loop_in_order step _ ordered.0 d (ordered.1 d at) loop
