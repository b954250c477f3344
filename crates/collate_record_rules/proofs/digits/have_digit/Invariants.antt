use Rattle.std.proofs.Common.{◌≡◌, drop, map}
use Rattle.std.specs.Prelude.{is_some}
use Rattle.std.specs.List.{list_any}
use Rattle.collate_lines.specs.Record.{said}
use Rattle.collate_rules.specs.NotedLines.{digit_line}
use Rattle.collate_record_rules.proofs.digits.have_digit.Given as goal

abbrev pub invariant-loop-line : goal.invariant-loop-line
invariant-loop-line l =
    list_any (λ line. is_some (digit_line line)) (map said (drop l.line-index l.lines))
    ≡ list_any (λ line. is_some (digit_line line)) (map said l.lines)
