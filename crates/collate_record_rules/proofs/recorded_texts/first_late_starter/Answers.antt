use Rattle.std.proofs.Common.{List, map, subst}
use Rattle.std.specs.Prelude.{MatchOption}
use Rattle.collate_lines.specs.declared.record.Record.{Record as Line}
use Rattle.collate_lines.specs.Record.{said}
use Rattle.collate_rules.specs.Breaks.{IsFirstBreak, IsLasting, NoneBreak}
use Rattle.collate_rules.specs.RecordRules.{breaks_marks_last}
use Rattle.collate_record_rules.proofs.records.RecordGrowthLemmas.{marks_last_stay}
use Rattle.collate_record_rules.proofs.recorded_texts.first_late_starter.Goals as goal

pub returns : goal.returns
returns c =
    subst (λ (ls : List Line). IsLasting (breaks_marks_last (map said ls)) → MatchOption c.in_ok-found.found (NoneBreak (breaks_marks_last (map said ls)) (map said c.args.records.now))
    (IsFirstBreak (breaks_marks_last (map said ls)) (map said c.args.records.now))) c.in_ok-all.ensures c.in_ok-found.ensures (marks_last_stay (map said c.args.records.now))
