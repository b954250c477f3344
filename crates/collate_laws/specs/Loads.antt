-- What the loads of a provider of compiled tables give.
use Rattle.std.specs.Prelude.{Option, Some, None, Result, Ok, Err}
use Rattle.icu_normalizer_core.specs.declared.canonical.tables.CanonicalTables.{CanonicalTables}
use Rattle.icu_normalizer_core.specs.declared.provider.error.DataError.{DataError}
use Rattle.icu_normalizer_core.specs.declared.provider.error.DataError.TheVariants.{Missing}
use Rattle.icu_normalizer_core.specs.declared.provider.error.TableName.TheVariants.{Reordering, Tailoring}
use Rattle.icu_normalizer_core.specs.CompatibilityLoading.{loaded_both, loaded_words}
use Rattle.icu_normalizer_core.specs.CompatibilityMeaning.{CompatibilityTables}
use Rattle.icu_normalizer_core.specs.Loading.{loaded}
use Rattle.icu_collator_core.specs.declared.tables.data.CollationData.{CollationData}
use Rattle.icu_collator_core.specs.declared.tables.reordering.CollationReordering.{CollationReordering}
use Rattle.collate_compile.specs.Provided.{Provided}

-- what the load of a tailoring gives
abbrev pub tailoring_load : Option CollationData → Result CollationData DataError
tailoring_load None = Err (Missing Tailoring)
tailoring_load (Some tailoring) = Ok tailoring

-- what the load of a reordering gives
abbrev pub reordering_load : Option CollationReordering → Result CollationReordering DataError
reordering_load None = Err (Missing Reordering)
reordering_load (Some reordering) = Ok reordering

-- the canonical tables of a provider
abbrev pub canonical_loads : Provided → Result CanonicalTables DataError
canonical_loads provided =
    loaded (Ok provided.canonical.trie)
    (Ok (record { scalars16 = provided.canonical.scalars16; scalars24 = provided.canonical.scalars24; steps = provided.canonical.steps }))
    (Ok provided.canonical.pairs)

-- its canonical and compatibility tables
abbrev pub compatibility_loads : Provided → Result CompatibilityTables DataError
compatibility_loads provided =
    loaded_both (canonical_loads provided)
    (loaded_words (Ok provided.compatibility.trie)
    (Ok (record { scalars16 = provided.compatibility.scalars16; scalars24 = provided.compatibility.scalars24 })))
