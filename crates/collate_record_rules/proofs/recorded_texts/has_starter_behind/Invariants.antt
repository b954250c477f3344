use Rattle.std.proofs.Common.{◌≡◌, drop, map, not}
use Rattle.collate_lines.specs.Record.{said}
use Rattle.collate_rules.specs.RecordRules.{has_starter_behind, is_mark}
use Rattle.collate_record_rules.proofs.recorded_texts.has_starter_behind.Given as goal

abbrev pub invariant-loop-i : goal.invariant-loop-i
invariant-loop-i l = has_starter_behind (is_mark (map said l.given.lines.now)) (λ d. not (is_mark (map said l.all.lines.now) d)) (drop l.i l.text) ≡ has_starter_behind (is_mark (map said l.given.lines.now)) (λ d. not (is_mark (map said l.all.lines.now) d)) l.text
