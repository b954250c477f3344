-- What a provider of tables has.
use Rattle.icu_normalizer_core.specs.declared.canonical.tables.CanonicalTables.{CanonicalTables}
use Rattle.icu_normalizer_core.specs.declared.compatibility.tables.NfkdTables.{NfkdTables}
use Rattle.icu_collator_core.specs.declared.tables.CollationTables.{CollationTables}

pub record Provided : Type 0 where
  pub canonical : CanonicalTables
  pub compatibility : NfkdTables
  pub collation : CollationTables
