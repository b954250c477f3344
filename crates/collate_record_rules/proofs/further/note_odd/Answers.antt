use Rattle.std.proofs.Common.{map}
use Rattle.collate_lines.specs.Record.{said}
use Rattle.collate_rules.proofs.records.RecordNotedLemmas.{odd_noted}
use Rattle.collate_record_rules.proofs.further.note_odd.Goals as goal

pub returns : goal.returns
returns c = λ lines has.
    odd_noted (map said c.args.recorded.now.lines.now) c.args.odd.now c.note.new.noted lines (said c.args.line.now) c.in_ok-character.character
    c.in_ok-character.ensures has c.in_ok-note.ensures
