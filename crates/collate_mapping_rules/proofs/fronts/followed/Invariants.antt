use Rattle.std.proofs.Common.{◌≡◌, ℕ, List, ◌++◌}
use Rattle.collate_rules.specs.Lists.{IsFront}
use Rattle.collate_rules.specs.Meaning.{expanded}
use Rattle.collate_mapping_rules.specs.Fronts.{left_ahead, looks_ahead}
use Rattle.collate_mapping_rules.proofs.fronts.followed.Given as goal

abbrev pub invariant-loop-ahead : goal.invariant-loop-ahead
invariant-loop-ahead g l =
    (done : List ℕ) × IsFront l.front done × (done ++ left_ahead (g.S.Steps.step l.steps) l.stack.items ≡ expanded (g.S.Steps.step l.steps) 1114112 l.fn.c)

abbrev pub decreases-loop-ahead : goal.decreases-loop-ahead
decreases-loop-ahead g l = looks_ahead (g.S.Steps.step l.steps) l.stack.items
