-- What packed tables mean.
use Rattle.std.specs.Option.{unwrap_or}
use Rattle.icu_codepointtrie.specs.Slots.{value_at, has_cell}
use Rattle.icu_normalizer_core.specs.declared.canonical.tables.CanonicalTables.{CanonicalTables}
use Rattle.icu_normalizer_core.specs.Canonical.{Canonical}
use Rattle.icu_normalizer_core.specs.CanonicalWords.{plain_word}
use Rattle.icu_normalizer_core.specs.CanonicalLists.{CanonicalLists, canonical_of}

-- tables as lists
abbrev pub lists_of : CanonicalTables → CanonicalLists
lists_of tables = record {
  has_word = λ c. has_cell tables.trie c;
  word = λ c. plain_word (unwrap_or (value_at tables.trie c) 0);
  scalars16 = tables.scalars16;
  scalars24 = tables.scalars24;
  steps = tables.steps;
  pairs = tables.pairs;
}

-- what tables mean
abbrev pub meaning : CanonicalTables → Canonical
meaning tables = canonical_of (lists_of tables)
