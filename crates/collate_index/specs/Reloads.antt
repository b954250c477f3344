-- what a reload does: which names get a new key, how many do, and why a file is refused
use Rattle.std.specs.Prelude.{◌≡◌, ℕ, ◌+◌, ◌⊎◌, List, [], ◌∷◌, length}
use Rattle.icu_normalizer_core.specs.Canonical.{Reaches}
use Rattle.icu_normalizer_core.specs.Decoding.{utf8_chars}
use Rattle.collate_lines.specs.declared.limits.Limits.{Limits}
use Rattle.collate_lines.specs.Record.{Record as Line}
use Rattle.collate_lines.specs.declared.rule.RecordsError.{RecordsError}
use Rattle.collate_lines.specs.declared.rule.RecordsError.TheVariants.{Fault, Memory as NoMemory}
use Rattle.collate_rules.specs.Meaning.{step_of}
use Rattle.collate_records.specs.Changes.{AreSettingsEqual, IsChanged}
use Rattle.collate_records.specs.Files.{RefusesWithin}
use Rattle.collate_laws.specs.Unchanged.{ReachesUnchanged}
use Rattle.collate_index.specs.Catalogue.{Catalogue}
use Rattle.collate_index.specs.declared.reload.ReloadError.{ReloadError}
use Rattle.collate_index.specs.declared.reload.ReloadError.TheVariants.{Record, Memory}

-- a name reaches a changed character, by the mapping steps of the old records
abbrev pub IsTouched : List Line → List Line → List ℕ → Type 0
IsTouched old new name = (c : ℕ) × Reaches (step_of old) (utf8_chars name) c × IsChanged old new c

-- so many of these names are touched, and the others reach none
abbrev pub AreTouched : List Line → List Line → List (List ℕ) → ℕ → Type 0
AreTouched old new [] count = count ≡ 0
AreTouched old new (name ∷ names) count =
    (IsTouched old new name × (others : ℕ) × (count ≡ others + 1) × AreTouched old new names others)
    ⊎ (ReachesUnchanged old new (utf8_chars name) × AreTouched old new names count)

-- so many keys are made: one for each touched name, or, where a setting changed, one for each name
pub record AreKeysMade (old : Catalogue) (new : List Line) (made : ℕ) : Type 0 where
  pub touched : AreSettingsEqual old.records new → AreTouched old.records new old.arrivals made
  pub each : (AreSettingsEqual old.records new → ⊥) → made ≡ length old.arrivals

-- a refusal of records as one of a reload
abbrev pub error_of : RecordsError → ReloadError
error_of (Fault fault) = Record fault
error_of NoMemory = Memory

-- a fault is the first of these bytes, within limits
abbrev pub IsRefused : Limits → List ℕ → ReloadError → Type 0
IsRefused limits bytes (Record fault) = RefusesWithin limits bytes (Fault fault)
IsRefused limits bytes Memory = Unit {0}
