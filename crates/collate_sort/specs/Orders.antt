-- How lines compare: what is compared of each, as the records and options of an order say.
use Rattle.std.specs.Prelude.{ℕ, List}
use Rattle.std.specs.declared.cmp.Ordering.{Ordering}
use Rattle.icu_collator_types.specs.Options.{resolved_options}
use Rattle.icu_collator_types.specs.declared.options.CollatorOptions.{CollatorOptions}
use Rattle.icu_collator_types.specs.declared.options.CollatorPreferences.{CollatorPreferences}
use Rattle.icu_collator_types.specs.declared.options.ResolvedCollatorOptions.{ResolvedCollatorOptions}
use Rattle.collate_index.specs.Meaning.{meaning_of, order_by}
use Rattle.collate_keyed_lines.specs.KeyedLines.{turned}
use Rattle.collate_keyed_lines.specs.declared.direction.Direction.{Direction}
use Rattle.collate_lists.specs.Names.{TextOrder}
use Rattle.collate_records.specs.Files.{FileRecords}
use Rattle.collate_rules.specs.Meaning.{settings_of}

-- what decides how lines compare
pub record LineRule : Type 0 where
  -- what the lines of the records file say, and within which limits it was read
  pub records : FileRecords
  -- the options, resolved
  pub options : ResolvedCollatorOptions
  -- which end of the order comes first
  pub direction : Direction

-- the rule that records, preferences and options give
abbrev pub rule_of : FileRecords → CollatorOptions → CollatorPreferences → Direction → LineRule
rule_of records options preferences direction =
    record { records = records; options = resolved_options options preferences (settings_of records.lines); direction = direction }

-- how texts compare, given by their bytes: as the records say
abbrev pub text_order : LineRule → TextOrder
text_order rule = turned rule.direction (order_by (meaning_of rule.records.lines rule.options))

-- a line and what of it is compared, each given by its bytes
pub record Line : Type 0 where
  pub line : List ℕ
  pub text : List ℕ

-- lines compare by what is compared of them
abbrev pub line_order : LineRule → Line → Line → Ordering
line_order rule a b = text_order rule a.text b.text
