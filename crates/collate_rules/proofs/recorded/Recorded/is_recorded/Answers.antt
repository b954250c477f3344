use Rattle.std.proofs.Common.{map, sym, ◌∙◌}
use Rattle.collate_lines.specs.Record.{said}
use Rattle.collate_rules.proofs.records.RecordedLemmas.{given_in_root, given_in_tailoring}
use Rattle.collate_rules.proofs.recorded.Recorded.is_recorded.Goals as goal

pub returns-then-is_tailored : goal.returns-then-is_tailored
returns-then-is_tailored c =
    given_in_tailoring (map said c.args.self.now.lines.now) c.args.prefix.now c.args.text.now (sym c.in_ok-is_tailored.ensures ∙ c.if-is_tailored.true)

pub returns : goal.returns
returns c =
    given_in_root (map said c.args.self.now.lines.now) c.args.prefix.now c.args.text.now c.in_ok-is_of_root.is_of_root
    (sym c.in_ok-is_tailored.ensures ∙ c.if-is_tailored.false) c.in_ok-is_of_root.ensures
