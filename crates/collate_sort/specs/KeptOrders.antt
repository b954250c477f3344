-- how an order is kept: by a collator over the tables of its records
use Rattle.icu_collator_types.specs.declared.options.CollatorOptions.{CollatorOptions}
use Rattle.icu_collator_types.specs.declared.options.CollatorPreferences.{CollatorPreferences}
use Rattle.collate_laws.specs.OverRecords.{IsCollatorOf}
use Rattle.collate_rules.specs.Accepted.{AreAccepted}
use Rattle.collate_sort.specs.Orders.{LineRule}
use Rattle.collate_sort.specs.declared.order.LineOrder.TheInside.{Inside}

-- what an order is to its callers
abbrev pub rule_inside : Inside → LineRule
rule_inside s = record { records = s.records; options = s.collator.options; direction = s.direction }

-- the lines of the records keep the rules, and the collator is theirs, by what was asked
pub record IsKept (s : Inside) : Type 0 where
  pub accepted : AreAccepted s.records.lines
  pub options : CollatorOptions
  pub preferences : CollatorPreferences
  pub collator : IsCollatorOf s.records.lines options preferences s.collator
