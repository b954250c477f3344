-- What loading the tables of a collation gives: the refusal of the first load that is refused, else the tables.
use Rattle.std.specs.Prelude.{Bool, true, false, Option, Some, None, Result, Ok, Err}
use Rattle.icu_normalizer_core.specs.declared.canonical.tables.CanonicalTables.{CanonicalTables}
use Rattle.icu_normalizer_core.specs.declared.provider.error.DataError.{DataError}
use Rattle.icu_collator_core.specs.TableSettings.{has_bit}
use Rattle.icu_collator_core.specs.declared.tables.CollationDiacritics.{CollationDiacritics}
use Rattle.icu_collator_core.specs.declared.tables.CollationJamo.{CollationJamo}
use Rattle.icu_collator_core.specs.declared.tables.CollationTables.{CollationTables}
use Rattle.icu_collator_core.specs.declared.tables.data.CollationData.{CollationData}
use Rattle.icu_collator_core.specs.declared.tables.metadata.CollationMetadata.{CollationMetadata}
use Rattle.icu_collator_core.specs.declared.tables.reordering.CollationReordering.{CollationReordering}
use Rattle.icu_collator_core.specs.declared.tables.special_primaries.CollationSpecialPrimaries.{CollationSpecialPrimaries}
use Rattle.icu_collator.specs.declared.comparison.loading.LocalTables.{LocalTables}
use Rattle.icu_collator.specs.declared.comparison.loading.SharedTables.{SharedTables}
use Rattle.icu_collator.specs.declared.comparison.loading.SourceTables.{SourceTables}

-- a table that is loaded only where it is asked for
abbrev pub loaded_where : {A : Type 0} → Bool → Result A DataError → Result (Option A) DataError
loaded_where false outcome = Ok None
loaded_where true (Err refusal) = Err refusal
loaded_where true (Ok table) = Ok (Some table)

-- the tables that all locales share
abbrev pub loaded_shared : Result CollationData DataError → Result CollationJamo DataError → Result CollationSpecialPrimaries DataError → Result SharedTables DataError
loaded_shared (Err refusal) jamo special_primaries = Err refusal
loaded_shared (Ok root) (Err refusal) special_primaries = Err refusal
loaded_shared (Ok root) (Ok jamo) (Err refusal) = Err refusal
loaded_shared (Ok root) (Ok jamo) (Ok special_primaries) =
    Ok (record { root = root; jamo = jamo; special_primaries = special_primaries })

-- a tailoring and a reordering where the settings say that they are there
abbrev pub loaded_choices : CollationMetadata → CollationDiacritics → Result (Option CollationData) DataError → Result (Option CollationReordering) DataError → Result LocalTables DataError
loaded_choices metadata diacritics (Err refusal) reordering = Err refusal
loaded_choices metadata diacritics (Ok tailoring) (Err refusal) = Err refusal
loaded_choices metadata diacritics (Ok tailoring) (Ok reordering) =
    Ok (record { metadata = metadata; diacritics = diacritics; tailoring = tailoring; reordering = reordering })

-- the tables of a locale
abbrev pub loaded_local : Result CollationMetadata DataError → Result CollationDiacritics DataError → Result CollationData DataError → Result CollationReordering DataError → Result LocalTables DataError
loaded_local (Err refusal) diacritics tailoring reordering = Err refusal
loaded_local (Ok metadata) (Err refusal) tailoring reordering = Err refusal
loaded_local (Ok metadata) (Ok diacritics) tailoring reordering =
    loaded_choices metadata diacritics (loaded_where (has_bit 3 metadata.bits) tailoring) (loaded_where (has_bit 5 metadata.bits) reordering)

-- both together
abbrev pub joined_tables : SharedTables → LocalTables → CollationTables
joined_tables shared local =
    record {
      root = shared.root;
      tailoring = local.tailoring;
      diacritics = local.diacritics;
      jamo = shared.jamo;
      reordering = local.reordering;
      metadata = local.metadata;
      special_primaries = shared.special_primaries;
    }

-- those that all locales share, then those of the locale
abbrev pub loaded_tables : Result SharedTables DataError → Result LocalTables DataError → Result CollationTables DataError
loaded_tables (Err refusal) local = Err refusal
loaded_tables (Ok shared) (Err refusal) = Err refusal
loaded_tables (Ok shared) (Ok local) = Ok (joined_tables shared local)

-- all tables: canonical ones, then those of the collation
abbrev pub loaded_source : Result CanonicalTables DataError → Result CollationTables DataError → Result SourceTables DataError
loaded_source (Err refusal) tables = Err refusal
loaded_source (Ok canonical) (Err refusal) = Err refusal
loaded_source (Ok canonical) (Ok tables) = Ok (record { canonical = canonical; tables = tables })
