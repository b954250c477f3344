use Rattle.std.proofs.Common.{◌++◌, map, take}
use Rattle.collate_lines.specs.Record.{said}
use Rattle.collate_records.proofs.comparing.DifferenceLemmas.{lines_more}
use Rattle.collate_records.proofs.differences.note_lines.Goals as goal

pub loop-line-preserved : goal.loop-line-preserved
loop-line-preserved c = λ done noted.
    lines_more (map said c.args.before.now.lines.now) (map said c.args.after.now.lines.now) done c.args.lines.now c.loop-line.line-index
    c.line-item.result c.note_line.new.differing c.loop-line-test.true c.line-item.is
    (c.in_ok-note_line.ensures (done ++ map said (take c.loop-line.line-index c.args.lines.now)) (c.loop-line.invariant done noted))
