-- What making a collator gives, from what its steps give.
use Rattle.std.proofs.Common.{◌≡◌, ◌⊎◌, Result, Ok, Err, refl, sym, ap, subst, inl, inr, ⊎_elim, true≢false}
use Rattle.std.specs.Prelude.{is_ok}
use Rattle.icu_normalizer_core.specs.CanonicalFaults.{IsAccepted as IsAcceptedCanonical}
use Rattle.icu_normalizer_core.specs.CanonicalMeaning.{lists_of}
use Rattle.icu_normalizer_core.specs.Loading.{CheckedMemoryAside as CanonicalMemoryAside}
use Rattle.icu_normalizer_core.specs.declared.canonical.tables.CanonicalTables.{CanonicalTables}
use Rattle.icu_normalizer_core.specs.declared.provider.error.DataError.{DataError}
use Rattle.icu_normalizer_core.specs.declared.provider.error.DataError.TheVariants.{Missing, Invalid, Canonical, Memory as NoMemory}
use Rattle.icu_collator_core.specs.Acceptance.{CollationSource}
use Rattle.icu_collator.specs.CollatorErrors.{of_data}
use Rattle.icu_collator.specs.Collators.{AreChecked, AreCheckedMemoryAside, CheckedMemoryAside, IsChecked}
use Rattle.icu_collator.specs.declared.comparison.error.CollatorError.{CollatorError}
use Rattle.icu_collator.specs.declared.comparison.error.CollatorError.TheVariants.{Data, Table, Memory}
use Rattle.icu_collator.specs.declared.comparison.loading.SourceTables.{SourceTables}

data_refusal : (refusal : DataError) → (refusal ≡ NoMemory) ⊎ (of_data refusal ≡ Data refusal)
data_refusal (Missing name) = inr refl
data_refusal (Invalid name) = inr refl
data_refusal (Canonical fault) = inr refl
data_refusal NoMemory = inl refl

-- the canonical tables are refused
pub canonical_refused : (source : SourceTables) (refusal : DataError) (error : CollatorError) → CanonicalMemoryAside (Err refusal) (Ok source.canonical) → error ≡ of_data refusal → CheckedMemoryAside source (Err error)
canonical_refused source refusal error refused is =
    subst (λ x. CheckedMemoryAside source (Err x)) (sym is) (⊎_elim
    (λ e. inl (ap (λ f. Err (of_data f)) e))
    (λ named. ⊎_elim
    (λ e. inl (ap (λ r. elim r [ Ok _ ↦ Err Memory | Err f ↦ Err (of_data f) ]) e))
    (λ first. inr (subst (λ x. IsChecked source (Err x)) (sym named) first))
    refused)
    (data_refusal refusal))

-- the canonical tables pass
accepted_checked : (source : SourceTables) (result : Result CollationSource CollatorError) → IsAcceptedCanonical (lists_of source.canonical) → AreChecked source.canonical source.tables result → IsChecked source result
accepted_checked source (Ok checked) accepted h = (h.0, record { canonical = accepted; tables = h.1 })
accepted_checked source (Err (Data refusal)) accepted h = absurd h
accepted_checked source (Err (Table fault)) accepted h = (accepted, h)
accepted_checked source (Err Memory) accepted h = absurd h

pub tables_checked : (source : SourceTables) (canonical : CanonicalTables) (result : Result CollationSource CollatorError) → CanonicalMemoryAside (Ok canonical) (Ok source.canonical) → AreCheckedMemoryAside canonical source.tables result → CheckedMemoryAside source result
tables_checked source canonical result passed checked = ⊎_elim
    (λ e. absurd (true≢false (ap is_ok e)))
    (λ same. ⊎_elim
    (λ e. inl e)
    (λ h. inr (accepted_checked source result same.1 (subst (λ c. AreChecked c source.tables result) same.0 h)))
    checked)
    passed
