use Rattle.collate_rules.specs.Meaning.{expanded}
use Rattle.collate_mapping_rules.specs.Fronts.{AreFronts}
use Rattle.collate_mapping_rules.proofs.fronts.fronts_in_order.Given as goal

abbrev pub invariant-loop-c : goal.invariant-loop-c
invariant-loop-c g l = AreFronts (expanded (g.S.Steps.step l.steps) 1114112) l.fronts
