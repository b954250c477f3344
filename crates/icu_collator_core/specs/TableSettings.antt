-- What tables say beside the words of characters: settings, groups, compressible leads, and what primaries stand in the
-- place of others.
use Rattle.std.specs.Prelude.{ℕ, ◌+◌, ◌*◌, ◌/◌, ◌%◌, ◌^◌, Bool, false, cond, ◌==◌, ◌||◌, leb, ltb, List, find, length, take, slice_get, Option, Some, None}
use Rattle.icu_normalizer_core.specs.BuiltIn.{is_within}
use Rattle.icu_collator_types.specs.declared.options.AlternateHandling.{AlternateHandling}
use Rattle.icu_collator_types.specs.declared.options.AlternateHandling.TheVariants.{NonIgnorable, Shifted}
use Rattle.icu_collator_types.specs.declared.options.CollationCaseFirst.{CollationCaseFirst}
use Rattle.icu_collator_types.specs.declared.options.CollationCaseFirst.TheVariants.{False as NoCaseFirst, Lower, Upper}
use Rattle.icu_collator_types.specs.declared.options.MaxVariable.{MaxVariable}
use Rattle.icu_collator_types.specs.declared.options.MaxVariable.TheVariants.{Space, Punctuation, Symbol, Currency}
use Rattle.icu_collator_types.specs.declared.options.FileSettings.{FileSettings}
use Rattle.icu_collator_core.specs.declared.tables.reordering.CollationReordering.{CollationReordering}
use Rattle.icu_collator_core.specs.declared.tables.metadata.CollationMetadata.{CollationMetadata}
use Rattle.icu_collator_core.specs.Collation.{with_lead}

-- ## Settings

-- whether a bit is set
abbrev pub has_bit : ℕ → ℕ → Bool
has_bit index bits = bits / 2 ^ index % 2 == 1

-- the last variable group, by two bits
abbrev pub max_variable_of : ℕ → MaxVariable
max_variable_of bits =
    cond (bits % 4 == 0) Space (cond (bits % 4 == 1) Punctuation (cond (bits % 4 == 2) Symbol Currency))

-- which case comes first, if one does
abbrev pub case_first_of : ℕ → CollationCaseFirst
case_first_of bits = cond (has_bit 9 bits) (cond (has_bit 10 bits) Upper Lower) NoCaseFirst

abbrev pub alternate_of : ℕ → AlternateHandling
alternate_of bits = cond (has_bit 8 bits) Shifted NonIgnorable

-- what metadata set of the options
abbrev pub settings_of : CollationMetadata → FileSettings
settings_of metadata =
    record {
      alternate_handling = alternate_of metadata.bits;
      case_first = case_first_of metadata.bits;
      max_variable = max_variable_of metadata.bits;
    }

-- ## Groups and leads

-- the upper halves of the first primaries after each group
abbrev pub groups_of : List ℕ → List ℕ
groups_of last_primaries = take 4 last_primaries

-- whether a lead's bit is set in the words after the four groups, 16 bits each, the lowest bit of the first word for lead 00
abbrev pub has_lead_bit : List ℕ → ℕ → Bool
has_lead_bit last_primaries lead =
    elim (slice_get last_primaries (4 + lead / 16)) [ Some word ↦ has_bit (lead % 16) word | None ↦ false ]

-- the leads that are compressible where the tables don't say which
abbrev pub is_usually_compressible : ℕ → Bool
is_usually_compressible lead = is_within 0x61 0x80 lead || (lead == 0xfe)

-- whether a lead is compressible: 16 words after the four groups say it, where there are just these
unfoldable pub is_compressible_in : List ℕ → ℕ → Bool
is_compressible_in last_primaries lead =
    cond (length last_primaries == 20) (has_lead_bit last_primaries lead) (is_usually_compressible lead)

-- ## Reordering

-- a primary with this lead in the place of its own
abbrev pub led_by : ℕ → ℕ → ℕ
led_by lead p = with_lead (λ other. lead) p

-- whether a part that a number ends goes past a primary and all that share its upper half
abbrev pub goes_past : ℕ → ℕ → Bool
goes_past p range = ltb (p / 2 ^ 16 * 2 ^ 16 + 0xffff) range

-- a primary in a lead that is cut: the first part that goes past it says what is added to its lead
abbrev pub moved_in_parts : List ℕ → ℕ → ℕ
moved_in_parts ranges p =
    elim (find (goes_past p) ranges) [ Some range ↦ led_by ((p / 2 ^ 24 + range % 256) % 256) p | None ↦ p ]

-- a primary whose lead has no byte to take its place
abbrev pub without_byte : CollationReordering → ℕ → ℕ
without_byte reordering p =
    cond (leb p 1 || leb reordering.min_high_no_reorder p) p (moved_in_parts reordering.reorder_ranges p)

-- the primary that stands in the place of another: the byte for its lead says so, unless it is 0
unfoldable pub reordered_by : CollationReordering → ℕ → ℕ
reordered_by reordering p =
    elim (slice_get reordering.reorder_table (p / 2 ^ 24)) [
      | Some byte ↦ cond (byte == 0) (without_byte reordering p) (led_by byte p)
      | None ↦ p
    ]

-- the same where tables may have no reordering
abbrev pub reordered_in : Option CollationReordering → ℕ → ℕ
reordered_in None p = p
reordered_in (Some reordering) p = reordered_by reordering p
