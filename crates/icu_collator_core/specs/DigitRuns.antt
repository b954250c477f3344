-- The digits that stand together at the beginning of a list of characters.
use Rattle.std.specs.Prelude.{ℕ, List, [], ◌∷◌, Option, Some, None}

-- the values of the digits at the beginning of a list, by what says which characters are digits
unfoldable pub leading_digits : (ℕ → Option ℕ) → List ℕ → List ℕ
leading_digits digit [] = []
leading_digits digit (c ∷ cs) = elim (digit c) [ Some d ↦ d ∷ leading_digits digit cs | None ↦ [] ]
