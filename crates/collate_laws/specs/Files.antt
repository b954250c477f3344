-- What a records file says of texts, by what a caller asks for. Texts are given as characters.
use Rattle.std.specs.Prelude.{◌≡◌, ℕ, true, Some, List}
use Rattle.std.specs.declared.cmp.Ordering.{Ordering}
use Rattle.icu_normalizer_core.specs.Canonical.{Canonical}
use Rattle.icu_collator_types.specs.Options.{resolved_options}
use Rattle.icu_collator_types.specs.declared.options.CollatorOptions.{CollatorOptions}
use Rattle.icu_collator_types.specs.declared.options.CollatorPreferences.{CollatorPreferences}
use Rattle.icu_collator_types.specs.declared.options.ResolvedCollatorOptions.{ResolvedCollatorOptions}
use Rattle.icu_collator_types.specs.declared.options.Strength.{Strength}
use Rattle.icu_collator.specs.KeyBytes.{key_of_text}
use Rattle.icu_collator.specs.Order.{collation_order}
use Rattle.icu_collator.specs.Settings.{has_plain_leads}
use Rattle.collate_lines.specs.Lines.{records_of}
use Rattle.collate_rules.specs.Meaning.{canonical_of, collation_of, settings_of}

-- what a caller asks for, at another strength
abbrev pub with_strength : CollatorOptions → Strength → CollatorOptions
with_strength options strength = record options { strength = Some strength }

-- classes and mappings by a file's lines
abbrev pub file_canonical : List ℕ → Canonical
file_canonical file = canonical_of (records_of file)

-- the options that count: what the caller leaves open the file sets
abbrev pub file_options : List ℕ → CollatorOptions → CollatorPreferences → ResolvedCollatorOptions
file_options file options preferences = resolved_options options preferences (settings_of (records_of file))

module _ (file : List ℕ) (options : CollatorOptions) (preferences : CollatorPreferences) where
  -- the order of two texts
  abbrev pub file_order : List ℕ → List ℕ → Ordering
  file_order = collation_order (collation_of (records_of file)) (file_options file options preferences)

  -- the sort key of a text
  abbrev pub file_key : List ℕ → List ℕ
  file_key = key_of_text (collation_of (records_of file)) (file_options file options preferences)

  -- numeric ordering is off, or the file's lead of numbers isn't compressible
  abbrev pub HasPlainLeads : Type 0
  HasPlainLeads = has_plain_leads (collation_of (records_of file)) (file_options file options preferences) ≡ true

  -- a text in another's place changes no order, on either side, and no key
  pub record IsAsGood (text other : List ℕ) : Type 0 where
    pub left : (y : List ℕ) → file_order text y ≡ file_order other y
    pub right : (x : List ℕ) → file_order x text ≡ file_order x other
    pub key : file_key text ≡ file_key other
