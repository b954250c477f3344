use Rattle.std.proofs.Common.{◌≡◌, map, take}
use Rattle.std.specs.Prelude.{flat_map}
use Rattle.collate_lines.specs.Record.{said}
use Rattle.collate_rules.specs.GivenWeights.{elements_of}
use Rattle.collate_weight_rules.proofs.given.given_elements.Given as goal

abbrev pub invariant-loop-line : goal.invariant-loop-line
invariant-loop-line l = l.elements.items ≡ flat_map elements_of (take l.line-index (map said l.lines))
