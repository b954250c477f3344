use Rattle.std.proofs.Common.{◌≡◌, drop, map}
use Rattle.collate_lines.specs.Record.{said}
use Rattle.collate_rules.specs.Meaning.{dot_above_in, first_found}
use Rattle.collate_record_rules.proofs.digits.said_dot_above.Given as goal

abbrev pub invariant-loop-line : goal.invariant-loop-line
invariant-loop-line l =
    first_found dot_above_in (map said (drop l.line-index l.lines))
    ≡ first_found dot_above_in (map said l.lines)
