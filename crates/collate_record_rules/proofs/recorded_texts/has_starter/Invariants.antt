use Rattle.std.proofs.Common.{◌≡◌, drop, map, not}
use Rattle.std.specs.List.{list_any}
use Rattle.collate_lines.specs.Record.{said}
use Rattle.collate_rules.specs.RecordRules.{is_mark}
use Rattle.collate_record_rules.proofs.recorded_texts.has_starter.Given as goal

abbrev pub invariant-loop-c : goal.invariant-loop-c
invariant-loop-c l = list_any (λ d. not (is_mark (map said l.all.lines.now) d)) (drop l.c-index l.list) ≡ list_any (λ d. not (is_mark (map said l.all.lines.now) d)) l.list
