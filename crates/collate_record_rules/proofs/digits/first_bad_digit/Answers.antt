use Rattle.std.proofs.Common.{List, false, map, refl, subst, sym, ◌∙◌}
use Rattle.std.specs.Prelude.{MatchOption}
use Rattle.collate_lines.specs.declared.record.Record.{Record as Line}
use Rattle.collate_lines.specs.Record.{said}
use Rattle.collate_rules.specs.Breaks.{IsFirstBreak, IsLasting, NoneBreak}
use Rattle.collate_rules.specs.RecordRules.{breaks_digits}
use Rattle.collate_rules.proofs.records.BreakLemmas.{whole_unbroken}
use Rattle.collate_record_rules.proofs.records.DigitLemmas.{no_digit}
use Rattle.collate_record_rules.proofs.records.RecordGrowthLemmas.{digits_stay}
use Rattle.collate_record_rules.proofs.digits.first_bad_digit.Goals as goal

pub returns : goal.returns
returns c =
    subst (λ (ls : List Line). IsLasting (breaks_digits (map said ls)) → MatchOption c.in_ok-found.found (NoneBreak (breaks_digits (map said ls)) (map said c.args.records.now))
    (IsFirstBreak (breaks_digits (map said ls)) (map said c.args.records.now))) c.in_ok-all.ensures c.in_ok-found.ensures (digits_stay (map said c.args.records.now))

pub returns-then-not-have_digit : goal.returns-then-not-have_digit
returns-then-not-have_digit c =
    let lines = map said c.args.records.now in
    whole_unbroken (breaks_digits lines) (digits_stay lines) c.args.records.now false (sym (no_digit lines (sym c.have_digit.ensures ∙ c.if-not-have_digit.true))) refl
