use Rattle.std.proofs.Common.{map, take}
use Rattle.collate_lines.specs.Record.{said}
use Rattle.collate_rules.specs.NotedLines.{HasDigits}
use Rattle.collate_records.proofs.noted_file.digits_of.Given as goal

abbrev pub invariant-loop-line : goal.invariant-loop-line
invariant-loop-line l = HasDigits l.digits (map said (take l.line-index l.lines))
