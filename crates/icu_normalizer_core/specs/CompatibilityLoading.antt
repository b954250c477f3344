-- What loading compatibility data gives.
use Rattle.std.specs.Prelude.{◌≡◌, ℕ, ◌⊎◌, Result, Ok, Err}
use Rattle.icu_codepointtrie.specs.Slots.{TrieTables}
use Rattle.icu_normalizer_core.specs.declared.canonical.tables.CanonicalTables.{CanonicalTables}
use Rattle.icu_normalizer_core.specs.declared.compatibility.tables.NfkdTables.{NfkdTables}
use Rattle.icu_normalizer_core.specs.declared.provider.error.DataError.{DataError}
use Rattle.icu_normalizer_core.specs.declared.provider.error.DataError.TheVariants.{Missing, Invalid, Canonical, Memory}
use Rattle.icu_normalizer_core.specs.declared.provider.provider_lists.NfkdLists.{NfkdLists}
use Rattle.icu_normalizer_core.specs.CanonicalMeaning.{lists_of}
use Rattle.icu_normalizer_core.specs.CanonicalFaults.{IsAccepted, IsFirstFault}
use Rattle.icu_normalizer_core.specs.CompatibilityFaults.{AreAcceptedWords, IsFirstWordFault}
use Rattle.icu_normalizer_core.specs.CompatibilityMeaning.{CompatibilityTables, nfkd_lists}

-- the compatibility tables that two loads give, one after the other; where one is refused, that is the answer
abbrev pub loaded_words : Result (TrieTables ℕ) DataError → Result NfkdLists DataError → Result NfkdTables DataError
loaded_words (Err refusal) nfkd_tables = Err refusal
loaded_words (Ok trie) (Err refusal) = Err refusal
loaded_words (Ok trie) (Ok lists) = Ok (record { trie = trie; scalars16 = lists.scalars16; scalars24 = lists.scalars24 })

-- canonical tables, and compatibility tables after them; again the first refusal is the answer
abbrev pub loaded_both : Result CanonicalTables DataError → Result NfkdTables DataError → Result CompatibilityTables DataError
loaded_both (Err refusal) words = Err refusal
loaded_both (Ok canonical) (Err refusal) = Err refusal
loaded_both (Ok canonical) (Ok words) = Ok (record { canonical = canonical; nfkd = words })

-- loaded tables are refused for the first fault of the canonical ones; where these have none, for the first of the others
abbrev pub AreRefusedFor : CompatibilityTables → DataError → Type 0
AreRefusedFor tables (Missing name) = ⊥
AreRefusedFor tables (Invalid name) = ⊥
AreRefusedFor tables (Canonical fault) =
    IsFirstFault (lists_of tables.canonical) fault
    ⊎ (IsAccepted (lists_of tables.canonical) × IsFirstWordFault (lists_of tables.canonical) (nfkd_lists tables.nfkd) fault)
AreRefusedFor tables Memory = ⊥

-- compatibility data of what was loaded: the refusal of a load, else the first fault of the tables, else the tables
abbrev pub AreChecked : Result CompatibilityTables DataError → Result CompatibilityTables DataError → Type 0
AreChecked result (Err refusal) = result ≡ Err refusal
AreChecked (Err refusal) (Ok tables) = AreRefusedFor tables refusal
AreChecked (Ok checked) (Ok tables) =
    (checked ≡ tables) × IsAccepted (lists_of tables.canonical) × AreAcceptedWords (lists_of tables.canonical) (nfkd_lists tables.nfkd)

-- the same, unless memory was refused
abbrev pub BothCheckedMemoryAside : Result CompatibilityTables DataError → Result CompatibilityTables DataError → Type 0
BothCheckedMemoryAside result outcome = (result ≡ Err Memory) ⊎ AreChecked result outcome
