-- Lines that offend against none of the rules on weights.
use Rattle.std.specs.Prelude.{List}
use Rattle.collate_lines.specs.declared.rule.Rule.TheVariants.{V1, V2, V3, V4, V5, V6}
use Rattle.collate_lines.specs.Record.{Record}
use Rattle.collate_rules.specs.Offenders.{NoneOffends}

pub record KeepWeightRules (records : List Record) : Type 0 where
  pub kinds : NoneOffends V1 records
  pub primaries : NoneOffends V2 records
  pub secondaries : NoneOffends V3 records
  pub tertiaries : NoneOffends V4 records
  pub apart : NoneOffends V5 records
  pub ranges : NoneOffends V6 records
