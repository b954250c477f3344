-- Collators and normalisers over the tables of a records file.
use Rattle.std.specs.Prelude.{◌≡◌, ℕ, List, [], ◌∷◌, None}
use Rattle.std.specs.Char.{IsScalar}
use Rattle.icu_normalizer_core.specs.Canonical.{Canonical, IsCanonical, Leaves}
use Rattle.icu_normalizer_core.specs.CanonicalMeaning.{meaning}
use Rattle.icu_normalizer_core.specs.Forming.{IsSaidOver}
use Rattle.icu_normalizer_core.specs.Sameness.{AreSameComposing}
use Rattle.icu_normalizer.specs.NormalizerTables.{NormalizerTables, tables_meaning}
use Rattle.icu_collator_types.specs.Options.{resolved_options}
use Rattle.icu_collator_types.specs.declared.options.CollatorOptions.{CollatorOptions}
use Rattle.icu_collator_types.specs.declared.options.CollatorPreferences.{CollatorPreferences}
use Rattle.icu_collator_core.specs.Sameness.{AreSameWeights}
use Rattle.icu_collator_core.specs.SameSettings.{AreSameWithOptions}
use Rattle.icu_collator_core.specs.WholeLeads.{MovesOnlyWholeLeads}
use Rattle.icu_collator.specs.Collators.{CollatorParts, source_collation}
use Rattle.collate_lines.specs.Record.{Record}
use Rattle.collate_rules.specs.Meaning.{any_step, canonical_of, class_of, collation_of, settings_of, weights_of}
use Rattle.collate_rules.specs.Rules.{compatibility_full_of}

-- a collator says of characters, weights and settings what a file says; options that the caller leaves open are the file's
pub record IsCollatorOf (records : List Record) (options : CollatorOptions) (preferences : CollatorPreferences) (collator : CollatorParts) : Type 0 where
  pub canonical : AreSameComposing (meaning collator.source.canonical) (canonical_of records)
  pub weights : AreSameWeights (source_collation collator.source).weights (weights_of records)
  pub settings : AreSameWithOptions (source_collation collator.source) (collation_of records)
  pub leads : MovesOnlyWholeLeads collator.source.tables
  pub resolved : collator.options ≡ resolved_options options preferences (settings_of records)

-- a normaliser to canonical forms says of characters what a file says
pub record IsCanonicalNormalizerOf (records : List Record) (tables : NormalizerTables) : Type 0 where
  pub canonical : AreSameComposing (meaning tables.canonical) (canonical_of records)
  pub no_compatibility : tables.nfkd ≡ None

-- the full list of a character is what steps of both kinds of mapping leave of it, and its class that of the file
pub record AreBothOf (records : List Record) (canonical : Canonical) : Type 0 where
  pub class : (c : ℕ) → IsScalar c → canonical.class c ≡ class_of records c
  pub full : (c : ℕ) → IsScalar c → Leaves (any_step records) (c ∷ []) (canonical.full c)

-- what records say of mappings of both kinds: the full list of a character is what steps of both leave of it
abbrev pub both_of : List Record → Canonical
both_of records = record (canonical_of records) { full = compatibility_full_of records }

-- a normaliser to compatibility forms says of mappings of both kinds what a file says, and keeps what data of both kinds promise
pub record IsCompatibilityNormalizerOf (records : List Record) (tables : NormalizerTables) : Type 0 where
  pub canonical : AreSameComposing (meaning tables.canonical) (canonical_of records)
  pub both : AreBothOf records (tables_meaning tables)
  pub promise : IsCanonical (meaning tables.canonical)
  pub over : IsSaidOver (meaning tables.canonical) (tables_meaning tables)
