use Rattle.std.proofs.Common.{◌≡◌, drop, map}
use Rattle.std.specs.List.{list_any}
use Rattle.collate_compile.specs.LineSayings.{begins_line}
use Rattle.collate_compile.specs.NotedLines.{said_by}
use Rattle.collate_compile.proofs.beginnings.begins_one.Given as goal

abbrev pub invariant-loop-line : goal.invariant-loop-line
invariant-loop-line l =
    list_any (begins_line l.c) (map said_by (drop l.line-index l.own)) ≡ list_any (begins_line l.c) (map said_by l.own)
