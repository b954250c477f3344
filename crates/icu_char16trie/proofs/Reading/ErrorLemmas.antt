-- Refusals of units, as results.
use Rattle.std.proofs.Common.{◌≡◌, ℕ, Err, Result, ap}
use Rattle.icu_char16trie.specs.declared.reader.error.ReadUnitsError.{ReadUnitsError}
use Rattle.icu_char16trie.specs.declared.reader.error.ReadUnitsError.TheVariants.{BadUnits}

abbrev pub failed : (A : Type 0) → ReadUnitsError → Result A ReadUnitsError
failed A error = Err error

pub error-same : {A : Type 0} (error other : ReadUnitsError) → failed A error ≡ Err other → error ≡ other
error-same error other e = cc

pub index-same : (a b : ℕ) → BadUnits a ≡ BadUnits b → a ≡ b
index-same a b e = cc

-- one error of two calls
pub error_at : {A B : Type 0} (error : ReadUnitsError) (index : ℕ) → failed A error ≡ Err (BadUnits index) → failed B error ≡ Err (BadUnits index)
error_at error index e = ap (λ error. Err error) (error-same error (BadUnits index) e)
