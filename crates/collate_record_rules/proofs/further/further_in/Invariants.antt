use Rattle.std.proofs.Common.{map, take}
use Rattle.collate_lines.specs.Record.{said}
use Rattle.collate_rules.specs.NotedLines.{HasFurther}
use Rattle.collate_record_rules.proofs.further.further_in.Given as goal

abbrev pub invariant-loop-line : goal.invariant-loop-line
invariant-loop-line l = HasFurther (map said l.recorded.lines.now) l.further (map said (take l.line-index l.lines))
