use Rattle.std.proofs.Common.{map, sym, ◌∙◌, ap}
use Rattle.collate_lines.specs.declared.record.Record.{Record as Line}
use Rattle.collate_lines.specs.Record.{said}
use Rattle.collate_rules.specs.RecordRules.{is_bad_digit}
use Rattle.collate_record_rules.proofs.digits.is_bad_digit.Goals as goal

pub returns-in-Digit : goal.returns-in-Digit
returns-in-Digit c =
    c.may_not_be_digit.ensures
    ∙ ap (λ (line : Line). is_bad_digit (map said c.args.all.now.lines.now) (map said c.args.given.now.lines.now) (said line)) (sym c.in-Digit.is)
