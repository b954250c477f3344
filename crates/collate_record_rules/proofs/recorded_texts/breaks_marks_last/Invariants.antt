use Rattle.std.proofs.Common.{◌≡◌, drop, map}
use Rattle.std.specs.List.{list_any}
use Rattle.collate_lines.specs.Record.{said}
use Rattle.collate_rules.specs.RecordRules.{has_late_starter}
use Rattle.collate_record_rules.proofs.recorded_texts.breaks_marks_last.Given as goal

abbrev pub invariant-loop-line : goal.invariant-loop-line
invariant-loop-line l = list_any (has_late_starter (map said l.all.lines.now) (map said l.lines)) (map said (drop l.line-index l.lines)) ≡ list_any (has_late_starter (map said l.all.lines.now) (map said l.lines)) (map said l.lines)
