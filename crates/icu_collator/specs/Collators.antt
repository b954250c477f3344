-- What a collator is seen as, and what making one gives.
use Rattle.std.specs.Prelude.{◌≡◌, ◌⊎◌, Result, Ok, Err}
use Rattle.icu_normalizer_core.specs.CanonicalFaults.{IsAccepted as IsAcceptedCanonical}
use Rattle.icu_normalizer_core.specs.CanonicalMeaning.{lists_of, meaning}
use Rattle.icu_normalizer_core.specs.Loading.{IsRefusedFor as IsRefusedAsData}
use Rattle.icu_normalizer_core.specs.declared.canonical.tables.CanonicalTables.{CanonicalTables}
use Rattle.icu_normalizer_core.specs.declared.provider.error.DataError.{DataError}
use Rattle.icu_collator_types.specs.Options.{resolved_options}
use Rattle.icu_collator_types.specs.declared.options.CollatorOptions.{CollatorOptions}
use Rattle.icu_collator_types.specs.declared.options.CollatorPreferences.{CollatorPreferences}
use Rattle.icu_collator_types.specs.declared.options.ResolvedCollatorOptions.{ResolvedCollatorOptions}
use Rattle.icu_collator_core.specs.Acceptance.{CollationSource, IsAccepted, IsFirstFault}
use Rattle.icu_collator_core.specs.Collation.{Collation}
use Rattle.icu_collator_core.specs.TableMeaning.{collation_of}
use Rattle.icu_collator_core.specs.TableSettings.{settings_of}
use Rattle.icu_collator_core.specs.declared.tables.CollationTables.{CollationTables}
use Rattle.icu_collator.specs.CollatorErrors.{of_data}
use Rattle.icu_collator.specs.declared.comparison.borrowed.CollatorBorrowed.{CollatorBorrowed}
use Rattle.icu_collator.specs.declared.comparison.error.CollatorError.{CollatorError}
use Rattle.icu_collator.specs.declared.comparison.error.CollatorError.TheVariants.{Data, Table, Memory}
use Rattle.icu_collator.specs.declared.comparison.loading.SourceTables.{SourceTables}

-- canonical and collation tables, and the options that the collator goes by
pub record CollatorParts : Type 0 where
  pub source : CollationSource
  pub options : ResolvedCollatorOptions

-- what tables say of texts
abbrev pub source_collation : CollationSource → Collation
source_collation source = collation_of (meaning source.canonical) source.tables

-- the tables of a borrowed collator, the options that it goes by, and what the tables say of texts
abbrev pub borrowed_source : CollatorBorrowed → CollationSource
borrowed_source collator = collator.tables.now

abbrev pub borrowed_options : CollatorBorrowed → ResolvedCollatorOptions
borrowed_options collator = collator.options

abbrev pub borrowed_collation : CollatorBorrowed → Collation
borrowed_collation collator = source_collation (borrowed_source collator)

-- loaded tables as those of a collator
abbrev pub source_of : SourceTables → CollationSource
source_of source = record { canonical = source.canonical; tables = source.tables }

-- why tables that were loaded are refused: the first fault of the canonical ones; where they have none, the first of the others
abbrev pub AreRefusedFor : SourceTables → CollatorError → Type 0
AreRefusedFor source (Data refusal) = IsRefusedAsData source.canonical refusal
AreRefusedFor source (Table fault) =
    IsAcceptedCanonical (lists_of source.canonical) × IsFirstFault (meaning source.canonical) source.tables fault
AreRefusedFor source Memory = ⊥

-- tables that were loaded and pass every check
pub record AreAccepted (source : SourceTables) : Type 0 where
  pub canonical : IsAcceptedCanonical (lists_of source.canonical)
  pub tables : IsAccepted (meaning source.canonical) source.tables

-- a collator of accepted tables, with its options resolved
pub record IsMadeOf (options : CollatorOptions) (preferences : CollatorPreferences) (source : SourceTables) (collator : CollatorParts) : Type 0 where
  pub are_accepted : AreAccepted source
  pub same_tables : collator.source ≡ source_of source
  pub are_resolved : collator.options ≡ resolved_options options preferences (settings_of source.tables.metadata)

-- what checking loaded tables gives
abbrev pub IsChecked : SourceTables → Result CollationSource CollatorError → Type 0
IsChecked source (Err error) = AreRefusedFor source error
IsChecked source (Ok checked) = (checked ≡ source_of source) × AreAccepted source

-- what making a collator gives: the refusal of a load, else the first fault of the tables, else the collator
abbrev pub IsMade : CollatorOptions → CollatorPreferences → Result SourceTables DataError → Result CollatorParts CollatorError → Type 0
IsMade options preferences (Err refusal) result = result ≡ Err (of_data refusal)
IsMade options preferences (Ok source) (Err error) = AreRefusedFor source error
IsMade options preferences (Ok source) (Ok collator) = IsMadeOf options preferences source collator

-- the same where the canonical tables pass
abbrev pub AreChecked : CanonicalTables → CollationTables → Result CollationSource CollatorError → Type 0
AreChecked canonical tables (Ok checked) =
    (checked ≡ record { canonical = canonical; tables = tables }) × IsAccepted (meaning canonical) tables
AreChecked canonical tables (Err (Data refusal)) = ⊥
AreChecked canonical tables (Err (Table fault)) = IsFirstFault (meaning canonical) tables fault
AreChecked canonical tables (Err Memory) = ⊥

abbrev pub AreCheckedMemoryAside : CanonicalTables → CollationTables → Result CollationSource CollatorError → Type 0
AreCheckedMemoryAside canonical tables result = (result ≡ Err Memory) ⊎ AreChecked canonical tables result

-- each of these, unless memory was refused
abbrev pub CheckedMemoryAside : SourceTables → Result CollationSource CollatorError → Type 0
CheckedMemoryAside source result = (result ≡ Err Memory) ⊎ IsChecked source result

abbrev pub MadeMemoryAside : CollatorOptions → CollatorPreferences → Result SourceTables DataError → Result CollatorParts CollatorError → Type 0
MadeMemoryAside options preferences outcome result = (result ≡ Err Memory) ⊎ IsMade options preferences outcome result
