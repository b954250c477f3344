-- Collators and normalisers over compiled tables are made, unless memory is refused.
use Rattle.std.proofs.Common.{◌≡◌, List, Option, Some, None, Bool, refl, sym, ap, subst, ◌∙◌, inl, inr, ⊎_elim}
use Rattle.std.specs.Prelude.{is_some, Result, Ok, Err, MatchResult, MatchOption}
use Rattle.icu_normalizer_core.specs.Canonical.{IsCanonical}
use Rattle.icu_normalizer_core.specs.CanonicalMeaning.{lists_of, meaning}
use Rattle.icu_normalizer_core.specs.CompatibilityLoading.{BothCheckedMemoryAside}
use Rattle.icu_normalizer_core.specs.CompatibilityMeaning.{CompatibilityTables, compatibility_meaning, nfkd_lists}
use Rattle.icu_normalizer_core.specs.Forming.{IsSaidOver}
use Rattle.icu_normalizer_core.specs.Loading.{CheckedMemoryAside}
use Rattle.icu_normalizer_core.specs.Sameness.{AreSameComposing}
use Rattle.icu_normalizer_core.specs.declared.canonical.tables.CanonicalTables.{CanonicalTables}
use Rattle.icu_normalizer_core.specs.declared.compatibility.tables.NfkdTables.{NfkdTables}
use Rattle.icu_normalizer_core.specs.declared.provider.error.DataError.{DataError}
use Rattle.icu_normalizer_core.specs.declared.provider.error.DataError.TheVariants.{Canonical as Fault, Invalid, Missing, Memory as NoMemory}
use Rattle.icu_normalizer_core.proofs.accepted.AcceptedPairs.{canonical as accepted_canonical}
use Rattle.icu_normalizer_core.proofs.accepted.AcceptedWords.{compatible}
use Rattle.icu_normalizer_core.proofs.building.BuiltTableLemmas.{fault_refutes}
use Rattle.icu_normalizer.specs.NormalizerTables.{IsMadeOfBoth, IsMadeOfCanonical, NormalizerTables, both_tables}
use Rattle.icu_collator_types.specs.declared.options.CollatorOptions.{CollatorOptions}
use Rattle.icu_collator_types.specs.declared.options.CollatorPreferences.{CollatorPreferences}
use Rattle.icu_collator_core.specs.TableSettings.{has_bit}
use Rattle.icu_collator_core.specs.declared.tables.data.CollationData.{CollationData}
use Rattle.icu_collator_core.specs.declared.tables.reordering.CollationReordering.{CollationReordering}
use Rattle.icu_collator.specs.Collators.{CollatorParts, IsMade, MadeMemoryAside}
use Rattle.icu_collator.specs.declared.comparison.error.CollatorError.{CollatorError}
use Rattle.icu_collator.specs.declared.comparison.error.CollatorError.TheVariants.{Data, Memory, Table}
use Rattle.icu_collator.specs.Loading.{loaded_choices, loaded_local, loaded_shared, loaded_source, loaded_tables, loaded_where}
use Rattle.icu_collator_types.specs.Options.{resolved_options}
use Rattle.collate_lines.specs.Record.{Record}
use Rattle.collate_compile.specs.Provided.{Provided}
use Rattle.collate_records.specs.CompiledOf.{IsCompiledOf}
use Rattle.collate_records.proofs.maps.AcceptedAllMapsLemmas.{accepted_pairs, accepted_same}
use Rattle.collate_rules.specs.Accepted.{AreAccepted}
use Rattle.collate_rules.specs.Meaning.{canonical_of}
use Rattle.collate_laws.specs.Loads.{canonical_loads, compatibility_loads, reordering_load, tailoring_load}
use Rattle.collate_laws.specs.OverRecords.{AreBothOf, IsCanonicalNormalizerOf, IsCollatorOf, IsCompatibilityNormalizerOf}
use Rattle.collate_laws.proofs.LawFaultLemmas.{table_fault_refutes, word_fault_refutes}

-- canonical data of compiled tables say what the lines say
same_characters : (records : List Record) (provided : Provided) → AreAccepted records → IsCompiledOf records provided
    → AreSameComposing (meaning provided.canonical) (canonical_of records)
same_characters records provided accepted is = record {
  same = accepted_same records (meaning provided.canonical) accepted is.canonical.meant;
  pair = accepted_pairs records (meaning provided.canonical) accepted is.canonical.meant;
}

-- ## Collators

-- a table that the metadata tell of is loaded just where it is there
tailoring_loaded : (bit : Bool) (tailoring : Option CollationData) → bit ≡ is_some tailoring → loaded_where bit (tailoring_load tailoring) ≡ Ok tailoring
tailoring_loaded bit None same = ap (λ (b : Bool). loaded_where b (tailoring_load None)) same
tailoring_loaded bit (Some tailoring) same = ap (λ (b : Bool). loaded_where b (tailoring_load (Some tailoring))) same

reordering_loaded : (bit : Bool) (reordering : Option CollationReordering) → bit ≡ is_some reordering → loaded_where bit (reordering_load reordering) ≡ Ok reordering
reordering_loaded bit None same = ap (λ (b : Bool). loaded_where b (reordering_load None)) same
reordering_loaded bit (Some reordering) same = ap (λ (b : Bool). loaded_where b (reordering_load (Some reordering))) same

module _ (records : List Record) (provided : Provided) (options : CollatorOptions) (preferences : CollatorPreferences)
    (accepted : AreAccepted records) (is : IsCompiledOf records provided) where
  -- what making a collator gives, where a tailoring and a reordering were loaded so
  Made : Result (Option CollationData) DataError → Result (Option CollationReordering) DataError → Result CollatorParts CollatorError → Type 0
  Made tailoring reordering result =
      IsMade options preferences
      (loaded_source (canonical_loads provided)
      (loaded_tables
      (loaded_shared (Ok provided.collation.root) (Ok provided.collation.jamo) (Ok provided.collation.special_primaries))
      (loaded_choices provided.collation.metadata provided.collation.diacritics tailoring reordering)))
      result

  over : (collator : CollatorParts) → Made (Ok provided.collation.tailoring) (Ok provided.collation.reordering) (Ok collator)
      → IsCollatorOf records options preferences collator
  unfolding Made
  over collator of_tables = record {
    canonical = rw of_tables.same_tables (same_characters records provided accepted is);
    weights = rw of_tables.same_tables is.collation.weights;
    settings = rw of_tables.same_tables is.collation.settings;
    leads = rw of_tables.same_tables is.collation.leads;
    resolved = of_tables.are_resolved ∙ ap (resolved_options options preferences) is.collation.settings.options;
  }

  made : (result : Result CollatorParts CollatorError) → Made (Ok provided.collation.tailoring) (Ok provided.collation.reordering) result
      → MatchResult result (IsCollatorOf records options preferences) (λ error. error ≡ Memory)
  unfolding Made
  made (Ok collator) of_tables = over collator of_tables
  made (Err (Data (Missing name))) refused = absurd refused
  made (Err (Data (Invalid name))) refused = absurd refused
  made (Err (Data (Fault fault))) refused = absurd (fault_refutes (lists_of provided.canonical) fault refused is.canonical.accepted)
  made (Err (Data NoMemory)) refused = absurd refused
  made (Err (Table fault)) refused = absurd (table_fault_refutes (meaning provided.canonical) provided.collation fault refused.1 is.collation.accepted)
  made (Err Memory) refused = absurd refused

  pub collator_made : (result : Result CollatorParts CollatorError)
      → MadeMemoryAside options preferences
      (loaded_source (canonical_loads provided)
      (loaded_tables
      (loaded_shared (Ok provided.collation.root) (Ok provided.collation.jamo) (Ok provided.collation.special_primaries))
      (loaded_local (Ok provided.collation.metadata) (Ok provided.collation.diacritics)
      (tailoring_load provided.collation.tailoring) (reordering_load provided.collation.reordering)))) result
      → MatchResult result (IsCollatorOf records options preferences) (λ error. error ≡ Memory)
  unfolding Made
  collator_made result aside =
      ⊎_elim
      (λ (none : result ≡ Err Memory). subst (λ (r : Result CollatorParts CollatorError). MatchResult r (IsCollatorOf records options preferences) (λ error. error ≡ Memory)) (sym none) refl)
      (λ is_made. made result
      (subst (λ (o : Result (Option CollationReordering) DataError). Made (Ok provided.collation.tailoring) o result)
      (reordering_loaded (has_bit 5 provided.collation.metadata.bits) provided.collation.reordering is.collation.reordering)
      (subst (λ (o : Result (Option CollationData) DataError). Made o (loaded_where (has_bit 5 provided.collation.metadata.bits) (reordering_load provided.collation.reordering)) result)
      (tailoring_loaded (has_bit 3 provided.collation.metadata.bits) provided.collation.tailoring is.collation.tailored) is_made)))
      aside

-- ## Normalisers

module _ (records : List Record) (provided : Provided) (accepted : AreAccepted records) (is : IsCompiledOf records provided) where
  abbrev error_of : {A : Type 0} → Result A DataError → DataError
  error_of (Ok tables) = NoMemory
  error_of (Err error) = error

  refused : (error : DataError) → CheckedMemoryAside (Err error) (Ok provided.canonical) → error ≡ NoMemory
  refused error (inl none) = ap (λ (r : Result CanonicalTables DataError). error_of r) none
  refused (Missing name) (inr none) = absurd none
  refused (Invalid name) (inr none) = absurd none
  refused (Fault fault) (inr first) = absurd (fault_refutes (lists_of provided.canonical) fault first is.canonical.accepted)
  refused NoMemory (inr none) = refl

  same_tables : (tables : CanonicalTables) → CheckedMemoryAside (Ok tables) (Ok provided.canonical) → tables ≡ provided.canonical
  same_tables tables (inl none) = absurd (ok_err none)
    where
      ok_err : Ok tables ≡ Err NoMemory → ⊥
      ok_err h = cc
  same_tables tables (inr checked) = checked.0

  pub canonical_made : (result : Result NormalizerTables DataError) → IsMadeOfCanonical result (canonical_loads provided)
      → MatchResult result (IsCanonicalNormalizerOf records) (λ error. error ≡ NoMemory)
  canonical_made (Err error) aside = refused error aside
  canonical_made (Ok tables) both = record {
    canonical = rw (same_tables tables.canonical both.1) (same_characters records provided accepted is);
    no_compatibility = both.0;
  }

  -- a normaliser to compatibility forms
  BothAside : CanonicalTables → NfkdTables → Type 0
  BothAside canonical nfkd =
      BothCheckedMemoryAside (Ok (both_tables canonical nfkd)) (Ok (both_tables provided.canonical provided.compatibility))

  same_both : (canonical : CanonicalTables) (nfkd : NfkdTables) → BothAside canonical nfkd
      → both_tables canonical nfkd ≡ both_tables provided.canonical provided.compatibility
  unfolding BothAside
  same_both canonical nfkd (inl none) = absurd (ok_err none)
    where
      ok_err : Ok (both_tables canonical nfkd) ≡ Err NoMemory → ⊥
      ok_err h = cc
  same_both canonical nfkd (inr checked) = checked.0

  canonical_at : (canonical : CanonicalTables) (nfkd : Option NfkdTables) → MatchOption nfkd ⊥ (BothAside canonical)
      → AreSameComposing (meaning canonical) (canonical_of records)
  canonical_at canonical None none = absurd none
  canonical_at canonical (Some nfkd) aside =
      rw (ap (λ (both : CompatibilityTables). both.canonical) (same_both canonical nfkd aside)) (same_characters records provided accepted is)

  both_at : (canonical : CanonicalTables) (nfkd : Option NfkdTables) → MatchOption nfkd ⊥ (BothAside canonical)
      → AreBothOf records (elim nfkd [ None ↦ meaning canonical | Some words ↦ compatibility_meaning (both_tables canonical words) ])
  both_at canonical None none = absurd none
  both_at canonical (Some nfkd) aside =
      subst (λ (both : CompatibilityTables). AreBothOf records (compatibility_meaning both)) (sym (same_both canonical nfkd aside))
      (record {
        class = λ c scalar. (same_characters records provided accepted is).same.class c scalar;
        full = λ c scalar. is.compatibility.meant.full c scalar;
      })

  -- which keep what data of both kinds promise
  promise_at : (canonical : CanonicalTables) (nfkd : Option NfkdTables) → MatchOption nfkd ⊥ (BothAside canonical) → IsCanonical (meaning canonical)
  promise_at canonical None none = absurd none
  promise_at canonical (Some nfkd) aside =
      subst (λ (both : CompatibilityTables). IsCanonical (meaning both.canonical)) (sym (same_both canonical nfkd aside))
      (accepted_canonical (lists_of provided.canonical) is.canonical.accepted)

  over_at : (canonical : CanonicalTables) (nfkd : Option NfkdTables) → MatchOption nfkd ⊥ (BothAside canonical)
      → IsSaidOver (meaning canonical) (elim nfkd [ None ↦ meaning canonical | Some words ↦ compatibility_meaning (both_tables canonical words) ])
  over_at canonical None none = absurd none
  over_at canonical (Some nfkd) aside =
      subst (λ (both : CompatibilityTables). IsSaidOver (meaning both.canonical) (compatibility_meaning both)) (sym (same_both canonical nfkd aside))
      (inr (compatible (lists_of provided.canonical) (nfkd_lists provided.compatibility) is.canonical.accepted is.compatibility.accepted))

  refused_both : (error : DataError) → BothCheckedMemoryAside (Err error) (Ok (both_tables provided.canonical provided.compatibility)) → error ≡ NoMemory
  refused_both error (inl none) = ap (λ (r : Result CompatibilityTables DataError). error_of r) none
  refused_both (Missing name) (inr none) = absurd none
  refused_both (Invalid name) (inr none) = absurd none
  refused_both (Fault fault) (inr first) =
      absurd
      (⊎_elim (λ canonical. fault_refutes (lists_of provided.canonical) fault canonical is.canonical.accepted)
      (λ words. word_fault_refutes (lists_of provided.canonical) (nfkd_lists provided.compatibility) fault words.1 is.compatibility.accepted)
      first)
  refused_both NoMemory (inr none) = refl

  pub compatibility_made : (result : Result NormalizerTables DataError) → IsMadeOfBoth result (compatibility_loads provided)
      → MatchResult result (IsCompatibilityNormalizerOf records) (λ error. error ≡ NoMemory)
  unfolding BothAside
  compatibility_made (Err error) aside = refused_both error aside
  compatibility_made (Ok tables) aside = record {
    canonical = canonical_at tables.canonical tables.nfkd aside;
    both = both_at tables.canonical tables.nfkd aside;
    promise = promise_at tables.canonical tables.nfkd aside;
    over = over_at tables.canonical tables.nfkd aside;
  }
