use Rattle.collate_lines.specs.Record.{said}
use Rattle.collate_rules.proofs.records.RecordNotedLemmas.{class_noted, class_past}
use Rattle.collate_rules.proofs.noted.note_class.Goals as goal

pub returns-in_ok-put_class-in-Some : goal.returns-in_ok-put_class-in-Some
returns-in_ok-put_class-in-Some c = λ lines has. class_noted c.args.classes.now c.put_class.new.classes lines (said c.args.line.now) c.in-Some.character c.in-Some.class c.in-Some.ensures has c.in_ok-put_class-in-Some.ensures

pub returns-in-None : goal.returns-in-None
returns-in-None c = λ lines has. class_past c.args.classes.now lines (said c.args.line.now) c.in-None.ensures has
