-- What compatibility data mean.
use Rattle.std.specs.Option.{unwrap_or}
use Rattle.icu_codepointtrie.specs.Slots.{value_at, has_cell}
use Rattle.icu_normalizer_core.specs.declared.canonical.data.CanonicalDataError.{CanonicalDataError}
use Rattle.icu_normalizer_core.specs.declared.canonical.data.CanonicalDataError.TheVariants.{Fault, Memory}
use Rattle.icu_normalizer_core.specs.declared.canonical.tables.CanonicalTables.{CanonicalTables}
use Rattle.icu_normalizer_core.specs.declared.compatibility.tables.NfkdTables.{NfkdTables}
use Rattle.icu_normalizer_core.specs.Canonical.{Canonical}
use Rattle.icu_normalizer_core.specs.CanonicalLists.{CanonicalLists}
use Rattle.icu_normalizer_core.specs.CanonicalMeaning.{lists_of}
use Rattle.icu_normalizer_core.specs.CanonicalWords.{plain_word}
use Rattle.icu_normalizer_core.specs.Compatibility.{compatibility_of}
use Rattle.icu_normalizer_core.specs.CompatibilityFaults.{IsFirstWordFault}
use Rattle.icu_normalizer_core.specs.Words.{WordLists}

-- compatibility tables as lists
abbrev pub nfkd_lists : NfkdTables → WordLists
nfkd_lists tables = record {
  has_word = λ c. has_cell tables.trie c;
  word = λ c. plain_word (unwrap_or (value_at tables.trie c) 0);
  scalars16 = tables.scalars16;
  scalars24 = tables.scalars24;
}

-- canonical and compatibility tables
pub record CompatibilityTables : Type 0 where
  pub canonical : CanonicalTables
  pub nfkd : NfkdTables

-- what both mean
abbrev pub compatibility_meaning : CompatibilityTables → Canonical
compatibility_meaning tables = compatibility_of (lists_of tables.canonical) (nfkd_lists tables.nfkd)

-- words are refused for their first fault; refused memory can come with any
abbrev pub IsWordRefusal : CanonicalLists → WordLists → CanonicalDataError → Type 0
IsWordRefusal lists words (Fault fault) = IsFirstWordFault lists words fault
IsWordRefusal lists words Memory = Unit {0}
