use Rattle.std.proofs.Common.{map, take}
use Rattle.collate_lines.specs.Record.{said}
use Rattle.collate_compile.specs.NotedLines.{HasOwn}
use Rattle.collate_compile.proofs.noted_lines.own_lines.Given as goal

abbrev pub invariant-loop-line : goal.invariant-loop-line
invariant-loop-line l = HasOwn l.own (map said (take l.line-index l.lines))
