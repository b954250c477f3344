use Rattle.collate_lines.specs.Record.{said}
use Rattle.collate_compile.proofs.gathering.OwnLineLemmas.{own_noted, own_past}
use Rattle.collate_compile.proofs.noted_lines.note_line.Goals as goal

pub returns-in_ok-note_own-in-Some : goal.returns-in_ok-note_own-in-Some
returns-in_ok-note_own-in-Some c = λ lines has.
    own_noted c.args.own.now c.note_own.new.own lines (said c.args.line.now) c.in-Some.character c.in-Some.ensures has
    c.in_ok-note_own-in-Some.ensures

pub returns-in-None : goal.returns-in-None
returns-in-None c = λ lines has. own_past c.args.own.now lines (said c.args.line.now) c.in-None.ensures has
