use Rattle.collate_lines.specs.Record.{said}
use Rattle.collate_rules.proofs.records.RecordNotedLemmas.{digit_noted, digit_past}
use Rattle.collate_records.proofs.noted_file.note_digit.Goals as goal

pub returns-in_ok-put_digit-in-Some : goal.returns-in_ok-put_digit-in-Some
returns-in_ok-put_digit-in-Some c = λ lines has. digit_noted c.args.digits.now c.put_digit.new.digits lines (said c.args.line.now) c.in-Some.character c.in-Some.value c.in-Some.ensures has c.in_ok-put_digit-in-Some.ensures

pub returns-in-None : goal.returns-in-None
returns-in-None c = λ lines has. digit_past c.args.digits.now lines (said c.args.line.now) c.in-None.ensures has
