use Rattle.std.proofs.Common.{◌≡◌, drop, map}
use Rattle.std.specs.List.{list_any}
use Rattle.collate_lines.specs.Record.{said}
use Rattle.collate_rules.specs.RecordRules.{is_bad_digit}
use Rattle.collate_record_rules.proofs.digits.breaks_digits.Given as goal

abbrev pub invariant-loop-line : goal.invariant-loop-line
invariant-loop-line l =
    list_any (is_bad_digit (map said l.all.lines.now) (map said l.lines)) (map said (drop l.line-index l.lines))
    ≡ list_any (is_bad_digit (map said l.all.lines.now) (map said l.lines)) (map said l.lines)
