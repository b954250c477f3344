use Rattle.std.proofs.Common.{◌≡◌, map, take}
use Rattle.collate_lines.specs.Record.{said}
use Rattle.collate_weight_rules.specs.PlacedWeights.{placed_elements}
use Rattle.collate_weight_rules.proofs.given.placed_elements.Given as goal

abbrev pub invariant-loop-line : goal.invariant-loop-line
invariant-loop-line l = l.placed.items ≡ placed_elements 0 (take l.line (map said l.lines))
