use Rattle.std.proofs.Common.{◌≡◌, ◌-◌, ◌≤◌, drop, length, map}
use Rattle.collate_lines.specs.Record.{said}
use Rattle.collate_rules.specs.Meaning.{class_of}
use Rattle.collate_rules.specs.RecordRules.{is_disordered}
use Rattle.collate_record_rules.proofs.decomposed.is_disordered.Given as goal

abbrev pub invariant-loop-index : goal.invariant-loop-index
invariant-loop-index l = record {
  within : l.index ≤ length l.list;
  same : is_disordered (class_of (map said l.given.lines.now)) (drop l.index l.list) ≡ is_disordered (class_of (map said l.given.lines.now)) l.list;
}

abbrev pub decreases-loop-index : goal.decreases-loop-index
decreases-loop-index l = length l.list - l.index
