-- What borrowed compatibility data mean.
use Rattle.icu_normalizer_core.specs.declared.compatibility.borrowed.CompatibilityBorrowed.{CompatibilityBorrowed}
use Rattle.icu_normalizer_core.specs.Canonical.{Canonical}
use Rattle.icu_normalizer_core.specs.CanonicalMeaning.{meaning}
use Rattle.icu_normalizer_core.specs.CompatibilityMeaning.{CompatibilityTables, compatibility_meaning}

-- the tables of the data
abbrev pub compatibility_tables : CompatibilityBorrowed → CompatibilityTables
compatibility_tables borrowed = borrowed.checked.now

-- what the data say of characters, and what the canonical data beneath say
abbrev pub borrowed_compatibility : CompatibilityBorrowed → Canonical
borrowed_compatibility borrowed = compatibility_meaning (compatibility_tables borrowed)

abbrev pub canonical_beneath : CompatibilityBorrowed → Canonical
canonical_beneath borrowed = meaning (compatibility_tables borrowed).canonical
