-- What decides the order of names: records and options.
use Rattle.std.specs.Prelude.{ℕ, cond, List}
use Rattle.std.specs.Cmp.Lexicographic.{slice_cmp}
use Rattle.std.specs.Ordering.{nat_cmp}
use Rattle.std.specs.declared.cmp.Ordering.{Ordering}
use Rattle.icu_normalizer_core.specs.Decoding.{utf8_chars}
use Rattle.icu_collator_types.specs.declared.options.ResolvedCollatorOptions.{ResolvedCollatorOptions}
use Rattle.icu_collator_core.specs.Collation.{Collation}
use Rattle.icu_collator.specs.KeyBytes.{key_of_text}
use Rattle.icu_collator.specs.Order.{collation_order}
use Rattle.icu_collator.specs.Settings.{has_plain_leads}
use Rattle.collate_lines.specs.Record.{Record}
use Rattle.collate_rules.specs.Meaning.{collation_of}
use Rattle.collate_lists.specs.Names.{TextOrder}

pub record Meaning : Type 0 where
  -- what the lines of the records file say
  pub records : List Record
  -- the options, resolved
  pub options : ResolvedCollatorOptions

-- what records and options decide
abbrev pub meaning_of : List Record → ResolvedCollatorOptions → Meaning
meaning_of records options = record { records = records; options = options }

-- How two names compare, given as characters: by the collation order, or by the bytes of their sort keys where plain leads
-- fail. There names with one sort key are equal.
unfoldable pub name_order : Collation → ResolvedCollatorOptions → List ℕ → List ℕ → Ordering
name_order collation options a b =
    let by_keys = slice_cmp nat_cmp (key_of_text collation options a) (key_of_text collation options b)
    in cond (has_plain_leads collation options) (collation_order collation options a b) by_keys

-- how names compare, given by their bytes: as the characters do that these spell
unfoldable pub order_by : Meaning → TextOrder
order_by m a b = name_order (collation_of m.records) m.options (utf8_chars a) (utf8_chars b)
