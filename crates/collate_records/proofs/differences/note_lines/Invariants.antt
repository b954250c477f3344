use Rattle.std.proofs.Common.{◌++◌, List, map, take}
use Rattle.collate_lines.specs.Record.{Record, said}
use Rattle.collate_records.specs.Differences.{AreDiffering}
use Rattle.collate_records.proofs.differences.note_lines.Given as goal

abbrev pub invariant-loop-line : goal.invariant-loop-line
invariant-loop-line l =
    (done : List Record)
    → AreDiffering (map said l.before.lines.now) (map said l.after.lines.now) done l.initial.differing
    → AreDiffering (map said l.before.lines.now) (map said l.after.lines.now) (done ++ map said (take l.line-index l.lines)) l.differing
