-- What loading gives.
use Rattle.std.specs.Prelude.{◌≡◌, ℕ, ◌⊎◌, List, Result, Ok, Err}
use Rattle.icu_codepointtrie.specs.Slots.{TrieTables}
use Rattle.icu_normalizer_core.specs.declared.canonical.data.CanonicalDataError.{CanonicalDataError}
use Rattle.icu_normalizer_core.specs.declared.canonical.data.CanonicalDataError.TheVariants.{Fault, Memory as NoMemory}
use Rattle.icu_normalizer_core.specs.declared.canonical.tables.CanonicalTables.{CanonicalTables}
use Rattle.icu_normalizer_core.specs.declared.provider.error.DataError.{DataError}
use Rattle.icu_normalizer_core.specs.declared.provider.error.DataError.TheVariants.{Missing, Invalid, Canonical, Memory}
use Rattle.icu_normalizer_core.specs.declared.provider.provider_lists.NfdLists.{NfdLists}
use Rattle.icu_normalizer_core.specs.CanonicalMeaning.{lists_of}
use Rattle.icu_normalizer_core.specs.CanonicalFaults.{IsAccepted, IsFirstFault}

-- this outcome, unless memory was refused
abbrev pub MemoryAside : {A : Type 0} → Result A DataError → Result A DataError → Type 0
MemoryAside result outcome = (result ≡ Err Memory) ⊎ (result ≡ outcome)

-- the canonical tables that three loads give, one after another; where one is refused, that is the answer
abbrev pub loaded : Result (TrieTables ℕ) DataError → Result NfdLists DataError → Result (List ℕ) DataError → Result CanonicalTables DataError
loaded (Err refusal) nfd_tables pairs = Err refusal
loaded (Ok trie) (Err refusal) pairs = Err refusal
loaded (Ok trie) (Ok lists) (Err refusal) = Err refusal
loaded (Ok trie) (Ok lists) (Ok pairs) =
    Ok (record { trie = trie; scalars16 = lists.scalars16; scalars24 = lists.scalars24; steps = lists.steps; pairs = pairs })

-- why tables weren't made canonical data, as a reason why data can't be had
abbrev pub refusal_of : CanonicalDataError → DataError
refusal_of (Fault fault) = Canonical fault
refusal_of NoMemory = Memory

-- loaded tables are refused for their first fault
abbrev pub IsRefusedFor : CanonicalTables → DataError → Type 0
IsRefusedFor tables (Missing name) = ⊥
IsRefusedFor tables (Invalid name) = ⊥
IsRefusedFor tables (Canonical fault) = IsFirstFault (lists_of tables) fault
IsRefusedFor tables Memory = ⊥

-- canonical data of what was loaded: the refusal of a load, else the first fault of the tables, else the tables
abbrev pub IsChecked : Result CanonicalTables DataError → Result CanonicalTables DataError → Type 0
IsChecked result (Err refusal) = result ≡ Err refusal
IsChecked (Err refusal) (Ok tables) = IsRefusedFor tables refusal
IsChecked (Ok checked) (Ok tables) = (checked ≡ tables) × IsAccepted (lists_of tables)

-- the same, unless memory was refused
abbrev pub CheckedMemoryAside : Result CanonicalTables DataError → Result CanonicalTables DataError → Type 0
CheckedMemoryAside result outcome = (result ≡ Err Memory) ⊎ IsChecked result outcome
