use Rattle.std.proofs.Common.{List, false, map, refl, subst, sym, ◌∙◌}
use Rattle.std.specs.Prelude.{MatchOption}
use Rattle.collate_lines.specs.declared.record.Record.{Record as Line}
use Rattle.collate_lines.specs.Record.{said}
use Rattle.collate_rules.specs.Breaks.{IsFirstBreak, IsLasting, NoneBreak}
use Rattle.collate_rules.specs.RecordRules.{breaks_dot_above}
use Rattle.collate_rules.proofs.records.BreakLemmas.{whole_unbroken}
use Rattle.collate_record_rules.proofs.records.DigitLemmas.{no_dot_above}
use Rattle.collate_record_rules.proofs.records.RecordGrowthLemmas.{dot_above_stays}
use Rattle.collate_record_rules.proofs.digits.first_bad_dotted.Goals as goal

pub returns : goal.returns
returns c =
    subst (λ (ls : List Line). IsLasting (breaks_dot_above (map said ls)) → MatchOption c.in_ok-found.found (NoneBreak (breaks_dot_above (map said ls)) (map said c.args.records.now))
    (IsFirstBreak (breaks_dot_above (map said ls)) (map said c.args.records.now))) c.in_ok-all.ensures c.in_ok-found.ensures (dot_above_stays (map said c.args.records.now))

pub returns-then-not-has_dot_above : goal.returns-then-not-has_dot_above
returns-then-not-has_dot_above c =
    let lines = map said c.args.records.now in
    whole_unbroken (breaks_dot_above lines) (dot_above_stays lines) c.args.records.now false (sym (no_dot_above lines (sym c.has_dot_above.ensures ∙ c.if-not-has_dot_above.true))) refl
