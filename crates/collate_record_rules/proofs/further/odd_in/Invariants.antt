use Rattle.std.proofs.Common.{map, take}
use Rattle.collate_lines.specs.Record.{said}
use Rattle.collate_rules.specs.NotedLines.{HasOdd}
use Rattle.collate_record_rules.proofs.further.odd_in.Given as goal

abbrev pub invariant-loop-line : goal.invariant-loop-line
invariant-loop-line l = HasOdd (map said l.recorded.lines.now) l.odd (map said (take l.line-index l.lines))
