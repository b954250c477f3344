-- What borrowed canonical data mean.
use Rattle.icu_normalizer_core.specs.declared.canonical.borrowed.CanonicalBorrowed.{CanonicalBorrowed}
use Rattle.icu_normalizer_core.specs.declared.canonical.tables.CanonicalTables.{CanonicalTables}
use Rattle.icu_normalizer_core.specs.Canonical.{Canonical}
use Rattle.icu_normalizer_core.specs.CanonicalMeaning.{meaning}

-- the tables of the data
abbrev pub borrowed_tables : CanonicalBorrowed → CanonicalTables
borrowed_tables borrowed = borrowed.checked.now

-- what the data say of characters
abbrev pub borrowed_meaning : CanonicalBorrowed → Canonical
borrowed_meaning borrowed = meaning (borrowed_tables borrowed)
