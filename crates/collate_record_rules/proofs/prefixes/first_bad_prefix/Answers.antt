use Rattle.std.proofs.Common.{List, map, subst}
use Rattle.std.specs.Prelude.{MatchOption}
use Rattle.collate_lines.specs.declared.record.Record.{Record as Line}
use Rattle.collate_lines.specs.Record.{said}
use Rattle.collate_rules.specs.Breaks.{IsFirstBreak, IsLasting, NoneBreak}
use Rattle.collate_rules.specs.RecordRules.{breaks_prefixes}
use Rattle.collate_record_rules.proofs.records.RecordGrowthLemmas.{prefixes_stay}
use Rattle.collate_record_rules.proofs.prefixes.first_bad_prefix.Goals as goal

pub returns : goal.returns
returns c =
    subst (λ (ls : List Line). IsLasting (breaks_prefixes (map said ls)) → MatchOption c.in_ok-found.found (NoneBreak (breaks_prefixes (map said ls)) (map said c.args.records.now))
    (IsFirstBreak (breaks_prefixes (map said ls)) (map said c.args.records.now))) c.in_ok-all.ensures c.in_ok-found.ensures (prefixes_stay (map said c.args.records.now))
