-- What a map from keys to numbers says of units that were given one after another.
use Rattle.std.specs.Prelude.{ℕ, ℤ, List, ◌∷◌, ◌++◌}
use Rattle.icu_char16trie.specs.declared.TrieResult.{TrieResult}
use Rattle.icu_char16trie.specs.declared.TrieResult.TheVariants.{NoMatch, NoValue, Intermediate, FinalValue}

module _ (IsEntry : List ℕ → ℤ → Type 0) (units : List ℕ) where
  -- the units are a key
  abbrev pub AreKey : Type 0
  AreKey = (number : ℤ) × IsEntry units number

  -- a longer key begins with the units
  abbrev pub BeginKey : Type 0
  BeginKey = (next : ℕ) × (rest : List ℕ) × (number : ℤ) × IsEntry (units ++ (next ∷ rest)) number

  -- the right answer to the units
  abbrev pub IsAnswer : TrieResult → Type 0
  IsAnswer NoMatch = (AreKey → ⊥) × (BeginKey → ⊥)
  IsAnswer NoValue = (AreKey → ⊥) × BeginKey
  IsAnswer (Intermediate value) = IsEntry units value × BeginKey
  IsAnswer (FinalValue value) = IsEntry units value × (BeginKey → ⊥)
