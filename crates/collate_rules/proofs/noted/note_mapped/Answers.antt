use Rattle.collate_lines.specs.Record.{said}
use Rattle.collate_rules.proofs.records.RecordNotedLemmas.{mapping_noted, mapping_past}
use Rattle.collate_rules.proofs.noted.note_mapped.Goals as goal

pub returns-in_ok-put-in-Some : goal.returns-in_ok-put-in-Some
returns-in_ok-put-in-Some c = λ lines has. mapping_noted c.args.mapped.now c.put.new.noted lines (said c.args.line.now) c.in-Some.character c.in-Some.ensures has c.in_ok-put-in-Some.ensures

pub returns-in-None : goal.returns-in-None
returns-in-None c = λ lines has. mapping_past c.args.mapped.now lines (said c.args.line.now) c.in-None.ensures has
