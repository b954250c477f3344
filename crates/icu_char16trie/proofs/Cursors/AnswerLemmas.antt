-- A cursor answers what the map says.
use Rattle.std.proofs.Common.{ℕ, ℤ, ◌↔◌, List, ◌∷◌, ◌++◌, refl}
use Rattle.icu_char16trie.specs.UnitMaps.{HasValue, IsLast}
use Rattle.icu_char16trie.specs.UnitAnswers.{BeginKey, IsAnswer}
use Rattle.icu_char16trie.specs.declared.TrieResult.{TrieResult}
use Rattle.icu_char16trie.specs.declared.TrieResult.TheVariants.{NoMatch, NoValue, Intermediate, FinalValue}

module _ (IsEntry IsNext : List ℕ → ℤ → Type 0) (units : List ℕ)
    (longer : (next : ℕ) (key : List ℕ) (number : ℤ) → IsNext (next ∷ key) number ↔ IsEntry (units ++ (next ∷ key)) number) where
  begins : ((next : ℕ) × (key : List ℕ) × (number : ℤ) × IsNext (next ∷ key) number) → BeginKey IsEntry units
  begins h = (h.0, h.1, h.2, (longer h.0 h.1 h.2).0 h.3)

  begins_not : ((key : List ℕ) (number : ℤ) → IsNext key number → ⊥) → BeginKey IsEntry units → ⊥
  begins_not none h = none (h.0 ∷ h.1) h.2 ((longer h.0 h.1 h.2).1 h.3)

  pub answers : (result : TrieResult) → ((number : ℤ) → HasValue result number ↔ IsEntry units number)
      → ((IsLast result → ⊥) → (next : ℕ) × (key : List ℕ) × (number : ℤ) × IsNext (next ∷ key) number)
      → (IsLast result → (key : List ℕ) (number : ℤ) → IsNext key number → ⊥) → IsAnswer IsEntry units result
  answers NoMatch value more last = ((λ h. (value h.0).1 h.1), begins_not (last tt))
  answers NoValue value more last = ((λ h. (value h.0).1 h.1), begins (more (λ h. h)))
  answers (Intermediate number) value more last = ((value number).0 refl, begins (more (λ h. h)))
  answers (FinalValue number) value more last = ((value number).0 refl, begins_not (last tt))
