use Rattle.std.proofs.Common.{◌≡◌, drop, map}
use Rattle.std.specs.List.{list_any}
use Rattle.collate_lines.specs.Record.{said}
use Rattle.collate_rules.specs.RecordRules.{has_mapping}
use Rattle.collate_record_rules.proofs.decomposed.has_mapped.Given as goal

abbrev pub invariant-loop-c : goal.invariant-loop-c
invariant-loop-c l = list_any (has_mapping (map said l.given.lines.now)) (drop l.c-index l.list) ≡ list_any (has_mapping (map said l.given.lines.now)) l.list
