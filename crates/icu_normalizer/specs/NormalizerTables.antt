-- What a normaliser that holds its data is seen as, and what making one gives.
use Rattle.std.specs.Prelude.{◌≡◌, ℕ, Option, Some, None, MatchOption, Result, Ok, Err, MatchResult}
use Rattle.icu_normalizer_core.specs.declared.canonical.tables.CanonicalTables.{CanonicalTables}
use Rattle.icu_normalizer_core.specs.declared.compatibility.tables.NfkdTables.{NfkdTables}
use Rattle.icu_normalizer_core.specs.declared.provider.error.DataError.{DataError}
use Rattle.icu_normalizer_core.specs.Canonical.{Canonical}
use Rattle.icu_normalizer_core.specs.CanonicalMeaning.{meaning}
use Rattle.icu_normalizer_core.specs.CompatibilityLoading.{BothCheckedMemoryAside}
use Rattle.icu_normalizer_core.specs.CompatibilityMeaning.{CompatibilityTables, compatibility_meaning}
use Rattle.icu_normalizer_core.specs.Loading.{CheckedMemoryAside}
use Rattle.icu_normalizer.specs.declared.owned_data.OwnedData.{OwnedData}
use Rattle.icu_normalizer.specs.declared.owned_data.OwnedData.TheVariants.{Canonical as OfCanonical, Compatibility as OfBoth}

-- canonical tables, and the compatibility tables of a normaliser to NFKD or NFKC
pub record NormalizerTables : Type 0 where
  pub canonical : CanonicalTables
  pub nfkd : Option NfkdTables

-- canonical and compatibility tables together
abbrev pub both_tables : CanonicalTables → NfkdTables → CompatibilityTables
both_tables canonical nfkd = record { canonical = canonical; nfkd = nfkd }

-- what they say of characters: what both mean, where compatibility tables are there
abbrev pub tables_meaning : NormalizerTables → Canonical
tables_meaning tables =
    elim tables.nfkd [ None ↦ meaning tables.canonical | Some nfkd ↦ compatibility_meaning (both_tables tables.canonical nfkd) ]

-- a bound below which each character stands for itself
abbrev pub tables_bound : NormalizerTables → ℕ
tables_bound tables = elim tables.nfkd [ None ↦ 0xc0 | Some nfkd ↦ 0xa0 ]

-- the tables of data that are held
abbrev pub tables_of : OwnedData → NormalizerTables
tables_of (OfCanonical canonical) = record { canonical = canonical; nfkd = None }
tables_of (OfBoth both) = record { canonical = both.canonical; nfkd = Some both.nfkd }

-- the tables of data that were loaded
abbrev pub loaded_tables : Result OwnedData DataError → Result NormalizerTables DataError
loaded_tables (Ok held) = Ok (tables_of held)
loaded_tables (Err refusal) = Err refusal

-- a normaliser of canonical tables alone: the refusal of a load, else the first fault, else the tables; unless memory
-- was refused
abbrev pub IsMadeOfCanonical : Result NormalizerTables DataError → Result CanonicalTables DataError → Type 0
IsMadeOfCanonical result outcome =
    MatchResult result
    (λ tables. (tables.nfkd ≡ None) × CheckedMemoryAside (Ok tables.canonical) outcome)
    (λ refusal. CheckedMemoryAside (Err refusal) outcome)

-- the same of canonical and compatibility tables
abbrev pub IsMadeOfBoth : Result NormalizerTables DataError → Result CompatibilityTables DataError → Type 0
IsMadeOfBoth result outcome =
    MatchResult result
    (λ tables. MatchOption tables.nfkd ⊥ (λ nfkd. BothCheckedMemoryAside (Ok (both_tables tables.canonical nfkd)) outcome))
    (λ refusal. BothCheckedMemoryAside (Err refusal) outcome)
