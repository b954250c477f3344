-- What loading a mapper of domain names gives.
use Rattle.std.specs.Prelude.{◌≡◌, ◌⊎◌, Result, Ok, Err}
use Rattle.icu_normalizer_core.specs.declared.canonical.tables.CanonicalTables.{CanonicalTables}
use Rattle.icu_normalizer_core.specs.declared.provider.error.TableName.TheVariants.{Uts46}
use Rattle.icu_normalizer_core.specs.declared.provider.error.DataError.{DataError}
use Rattle.icu_normalizer_core.specs.declared.provider.error.DataError.TheVariants.{Missing, Invalid, Canonical, Memory}
use Rattle.icu_normalizer_core.specs.declared.provider.provider_lists.Uts46Tables.{Uts46Tables}
use Rattle.icu_normalizer_core.specs.CanonicalFaults.{IsAccepted, IsFirstFault}
use Rattle.icu_normalizer_core.specs.CanonicalMeaning.{lists_of}
use Rattle.icu_normalizer.specs.Uts46.{IsMapperTable}

-- canonical tables and a mapper table
pub record MapperTables : Type 0 where
  pub canonical : CanonicalTables
  pub mapping : Uts46Tables

-- loaded tables are refused for the first fault of the canonical ones, then for a bad word of the mapper table
abbrev pub IsMapperRefusedFor : CanonicalTables → Uts46Tables → DataError → Type 0
IsMapperRefusedFor canonical mapping (Missing name) = ⊥
IsMapperRefusedFor canonical mapping (Invalid name) = (name ≡ Uts46) × IsAccepted (lists_of canonical) × ¬ IsMapperTable mapping
IsMapperRefusedFor canonical mapping (Canonical fault) = IsFirstFault (lists_of canonical) fault
IsMapperRefusedFor canonical mapping Memory = ⊥

-- a mapper of what was loaded: the first refusal of a load, else what the tables are refused for, else the tables
abbrev pub IsMapperChecked : Result MapperTables DataError → Result CanonicalTables DataError → Result Uts46Tables DataError → Type 0
IsMapperChecked result (Err refusal) mapping = result ≡ Err refusal
IsMapperChecked result (Ok canonical) (Err refusal) = result ≡ Err refusal
IsMapperChecked (Err refusal) (Ok canonical) (Ok mapping) = IsMapperRefusedFor canonical mapping refusal
IsMapperChecked (Ok mapper) (Ok canonical) (Ok mapping) =
    (mapper.canonical ≡ canonical) × (mapper.mapping ≡ mapping) × IsAccepted (lists_of canonical) × IsMapperTable mapping

-- the same, unless memory was refused
abbrev pub MapperMemoryAside : Result MapperTables DataError → Result CanonicalTables DataError → Result Uts46Tables DataError → Type 0
MapperMemoryAside result canonical mapping = (result ≡ Err Memory) ⊎ IsMapperChecked result canonical mapping
