-- Tables that are compiled of records pass every check, and a collator over them is one of the records.
use Rattle.std.proofs.Common.{◌≡◌, List, Option, ap, ◌∙◌, ⊎_elim}
use Rattle.icu_normalizer_core.specs.Canonical.{Canonical}
use Rattle.icu_normalizer_core.specs.CanonicalMeaning.{meaning}
use Rattle.icu_collator_types.specs.Options.{resolved_options}
use Rattle.icu_collator_types.specs.declared.options.CollationCaseFirst.{CollationCaseFirst}
use Rattle.icu_collator_types.specs.declared.options.CollationNumericOrdering.{CollationNumericOrdering}
use Rattle.icu_collator_types.specs.declared.options.CollatorOptions.{CollatorOptions}
use Rattle.icu_collator_types.specs.declared.options.CollatorPreferences.{CollatorPreferences}
use Rattle.icu_collator_types.specs.declared.options.FileSettings.{FileSettings}
use Rattle.icu_collator_core.specs.Acceptance.{IsAccepted, IsRefusal}
use Rattle.icu_collator_core.specs.TableSettings.{settings_of as settings_of_metadata}
use Rattle.icu_collator_core.specs.declared.check.TableFault.{TableFault}
use Rattle.icu_collator_core.specs.declared.check.TableFault.TheVariants.{Memory}
use Rattle.icu_collator_core.specs.declared.tables.CollationTables.{CollationTables}
use Rattle.icu_collator.specs.Collators.{CollatorParts}
use Rattle.collate_lines.specs.Record.{Record}
use Rattle.collate_compile.specs.Provided.{Provided}
use Rattle.collate_records.specs.CompiledOf.{IsCompiledOf}
use Rattle.collate_records.proofs.maps.AcceptedAllMapsLemmas.{accepted_pairs, accepted_same}
use Rattle.collate_rules.specs.Accepted.{AreAccepted}
use Rattle.collate_rules.specs.Meaning.{settings_of}
use Rattle.collate_laws.specs.OverRecords.{IsCollatorOf}
use Rattle.collate_laws.proofs.LawFaultLemmas.{table_fault_refutes}
use Rattle.collate_index.specs.Catalogue.{preferences_of}
use Rattle.collate_index.specs.declared.asked.Asked.{Asked}

-- accepted tables are refused only if memory is
pub refused_for_memory : (canonical : Canonical) (tables : CollationTables) (fault : TableFault) → IsRefusal canonical tables fault → IsAccepted canonical tables → fault ≡ Memory
refused_for_memory canonical tables fault refused accepted = ⊎_elim (λ memory. memory) (λ first. absurd (table_fault_refutes canonical tables fault first accepted)) refused

-- a collator over compiled tables
pub collator_of_compiled : (records : List Record) (provided : Provided) (options : CollatorOptions) (preferences : CollatorPreferences) (collator : CollatorParts)
    → AreAccepted records → IsCompiledOf records provided
    → collator.source ≡ record { canonical = provided.canonical; tables = provided.collation }
    → collator.options ≡ resolved_options options preferences (settings_of_metadata provided.collation.metadata)
    → IsCollatorOf records options preferences collator
collator_of_compiled records provided options preferences collator accepted is same resolved = record {
  canonical = rw same (record {
    same = accepted_same records (meaning provided.canonical) accepted is.canonical.meant;
    pair = accepted_pairs records (meaning provided.canonical) accepted is.canonical.meant;
  });
  weights = rw same is.collation.weights;
  settings = rw same is.collation.settings;
  leads = rw same is.collation.leads;
  resolved = resolved ∙ ap (resolved_options options preferences) is.collation.settings.options;
}

-- what preferences ask of the options, they ask as what was asked
resolved_by : (asked : Asked) (preferences : CollatorPreferences) (settings : FileSettings)
    → preferences.case_first ≡ asked.case_first → preferences.numeric_ordering ≡ asked.numeric_ordering
    → resolved_options asked.options preferences settings ≡ resolved_options asked.options (preferences_of asked) settings
resolved_by asked preferences settings first numeric =
    let resolved = λ (f : Option CollationCaseFirst) (n : Option CollationNumericOrdering).
    resolved_options asked.options (record (preferences_of asked) { case_first = f; numeric_ordering = n }) settings in
    ap (λ (f : Option CollationCaseFirst). resolved f preferences.numeric_ordering) first
    ∙ ap (λ (n : Option CollationNumericOrdering). resolved asked.case_first n) numeric

-- so a collator by such preferences is one by what was asked
pub as_asked : (records : List Record) (asked : Asked) (preferences : CollatorPreferences) (collator : CollatorParts)
    → preferences.case_first ≡ asked.case_first → preferences.numeric_ordering ≡ asked.numeric_ordering
    → IsCollatorOf records asked.options preferences collator → IsCollatorOf records asked.options (preferences_of asked) collator
as_asked records asked preferences collator first numeric is = record {
  canonical = is.canonical;
  weights = is.weights;
  settings = is.settings;
  leads = is.leads;
  resolved = is.resolved ∙ resolved_by asked preferences (settings_of records) first numeric;
}
