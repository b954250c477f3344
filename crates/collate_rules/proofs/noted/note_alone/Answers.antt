use Rattle.collate_lines.specs.Record.{said}
use Rattle.collate_rules.proofs.records.RecordNotedLemmas.{alone_noted, alone_past}
use Rattle.collate_rules.proofs.noted.note_alone.Goals as goal

pub returns-in_ok-put-in-Some : goal.returns-in_ok-put-in-Some
returns-in_ok-put-in-Some c = λ lines has. alone_noted c.args.alone.now c.put.new.noted lines (said c.args.line.now) c.in-Some.character c.in-Some.ensures has c.in_ok-put-in-Some.ensures

pub returns-in-None : goal.returns-in-None
returns-in-None c = λ lines has. alone_past c.args.alone.now lines (said c.args.line.now) c.in-None.ensures has
