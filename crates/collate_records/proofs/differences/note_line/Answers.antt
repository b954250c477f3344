use Rattle.std.proofs.Common.{map}
use Rattle.collate_lines.specs.Record.{said}
use Rattle.collate_records.proofs.comparing.DifferenceLemmas.{line_alike, line_differs}
use Rattle.collate_records.proofs.differences.note_line.Goals as goal

pub returns-in_ok-put-in-Some : goal.returns-in_ok-put-in-Some
returns-in_ok-put-in-Some c = λ done noted.
    line_differs (map said c.args.before.now.lines.now) (map said c.args.after.now.lines.now) done (said c.args.line.now) c.args.differing.now
    c.put.new.noted c.in-Some.c c.in-Some.ensures.one c.in_ok-put-in-Some.ensures noted

pub returns-in-None : goal.returns-in-None
returns-in-None c = λ done noted.
    line_alike (map said c.args.before.now.lines.now) (map said c.args.after.now.lines.now) done (said c.args.line.now) c.args.differing.now
    c.in-None.ensures.none noted
