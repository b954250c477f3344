-- Tables that are compiled of a records file: they pass every check, and say what its lines say.
use Rattle.std.specs.Prelude.{◌≡◌, List, is_some}
use Rattle.icu_normalizer_core.specs.CanonicalFaults.{IsAccepted as IsAcceptedCanonical}
use Rattle.icu_normalizer_core.specs.CanonicalMaps.{AreMeaning}
use Rattle.icu_normalizer_core.specs.CanonicalMeaning.{lists_of, meaning}
use Rattle.icu_normalizer_core.specs.CompatibilityFaults.{AreAcceptedWords}
use Rattle.icu_normalizer_core.specs.CompatibilityMeaning.{nfkd_lists}
use Rattle.icu_collator_core.specs.Acceptance.{IsAccepted}
use Rattle.icu_collator_core.specs.Sameness.{AreSameWeights}
use Rattle.icu_collator_core.specs.SameSettings.{AreSameWithOptions}
use Rattle.icu_collator_core.specs.TableMeaning.{collation_of as collation_of_tables, weights_of as weights_of_tables}
use Rattle.icu_collator_core.specs.TableSettings.{has_bit}
use Rattle.icu_collator_core.specs.WholeLeads.{MovesOnlyWholeLeads}
use Rattle.collate_lines.specs.Record.{Record}
use Rattle.collate_compile.specs.Provided.{Provided}
use Rattle.collate_records.specs.Maps.{AreWordsOf, maps_of}
use Rattle.collate_rules.specs.Meaning.{collation_of, weights_of}

-- canonical tables
pub record AreCanonicalOf (records : List Record) (provided : Provided) : Type 0 where
  pub accepted : IsAcceptedCanonical (lists_of provided.canonical)
  pub meant : AreMeaning (maps_of records) (meaning provided.canonical)

-- compatibility tables, over the canonical ones
pub record AreCompatibilityOf (records : List Record) (provided : Provided) : Type 0 where
  pub accepted : AreAcceptedWords (lists_of provided.canonical) (nfkd_lists provided.compatibility)
  pub meant : AreWordsOf records (nfkd_lists provided.compatibility)

-- collation tables, over the canonical ones
pub record AreCollationOf (records : List Record) (provided : Provided) : Type 0 where
  pub accepted : IsAccepted (meaning provided.canonical) provided.collation
  pub weights : AreSameWeights (weights_of_tables (meaning provided.canonical) provided.collation) (weights_of records)
  pub settings : AreSameWithOptions (collation_of_tables (meaning provided.canonical) provided.collation) (collation_of records)
  pub leads : MovesOnlyWholeLeads provided.collation
  -- the metadata say which tables there are
  pub tailored : has_bit 3 provided.collation.metadata.bits ≡ is_some provided.collation.tailoring
  pub reordering : has_bit 5 provided.collation.metadata.bits ≡ is_some provided.collation.reordering

-- all of them
pub record IsCompiledOf (records : List Record) (provided : Provided) : Type 0 where
  pub canonical : AreCanonicalOf records provided
  pub compatibility : AreCompatibilityOf records provided
  pub collation : AreCollationOf records provided
