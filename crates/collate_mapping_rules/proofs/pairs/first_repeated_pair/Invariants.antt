use Rattle.std.proofs.Common.{ℕ, ◌<◌, map, take}
use Rattle.collate_lines.specs.Record.{said}
use Rattle.collate_rules.specs.PartMaps.{HasComposed}
use Rattle.collate_rules.specs.Rules.{RepeatsPair}
use Rattle.collate_mapping_rules.proofs.pairs.first_repeated_pair.Given as goal

abbrev pub invariant-loop-i : goal.invariant-loop-i
invariant-loop-i l = record {
  noted : HasComposed l.pairs (map said (take l.i l.records));
  none : (k : ℕ) → k < l.i → RepeatsPair (map said l.records) k → ⊥;
}
