use Rattle.collate_lines.specs.Record.{said}
use Rattle.collate_rules.proofs.records.RecordNotedLemmas.{mapping_length_noted, mapping_length_past}
use Rattle.collate_rules.proofs.mapped.note_mapping.Goals as goal

pub returns-in_ok-put_length-in-Some : goal.returns-in_ok-put_length-in-Some
returns-in_ok-put_length-in-Some c = λ lines has. mapping_length_noted c.args.lengths.now c.put_length.new.lengths lines (said c.args.line.now) c.in-Some.character c.in-Some.length c.in-Some.ensures has c.in_ok-put_length-in-Some.ensures

pub returns-in-None : goal.returns-in-None
returns-in-None c = λ lines has. mapping_length_past c.args.lengths.now lines (said c.args.line.now) c.in-None.ensures has
