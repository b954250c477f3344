-- What is asked of keys that are written, and what is at fault.
use Rattle.std.specs.Prelude.{◌≡◌, ℕ, ℤ, ◌+◌, ◌-◌, ◌<◌, ◌≤◌, ◌⊎◌, List, [], ◌∷◌, length, map, slice_get, Some, codes, ◌++◌}
use Rattle.std.specs.Fmt.{decimal}
use Rattle.std.specs.Borrow.{Bor}
use Rattle.icu_char16trie.specs.UnitPairs.{Below}
use Rattle.icu_char16trie.specs.declared.writer.WriteUnitsError.{WriteUnitsError}
use Rattle.icu_char16trie.specs.declared.writer.WriteUnitsError.TheVariants.{EmptyKey, NotSorted, TooLarge, Memory}

-- the keys and their values
abbrev pub keyed : List (Bor (List ℕ) × ℤ) → List (List ℕ × ℤ)
keyed pairs = map (λ pair. (pair.0.now, pair.1)) pairs

-- the units of all keys
abbrev pub total : List (List ℕ × ℤ) → ℕ
total [] = 0
total (pair ∷ pairs) = length pair.0 + total pairs

-- the key at the index is empty
abbrev pub IsEmptyKey : List (List ℕ × ℤ) → ℕ → Type 0
IsEmptyKey pairs index = (number : ℤ) × (slice_get pairs index ≡ Some ([], number))

-- the key at the index does not come after the one before it
abbrev pub IsUnsorted : List (List ℕ × ℤ) → ℕ → Type 0
IsUnsorted pairs index = (first : List ℕ × ℤ) × (second : List ℕ × ℤ) × (0 < index)
    × (slice_get pairs (index - 1) ≡ Some first) × (slice_get pairs index ≡ Some second) × (Below first.0 second.0 → ⊥)

-- no key before the index is at fault
abbrev pub NoneBefore : List (List ℕ × ℤ) → ℕ → Type 0
NoneBefore pairs index = (other : ℕ) → other < index → IsEmptyKey pairs other ⊎ IsUnsorted pairs other → ⊥

-- the keys are written: none is at fault, and they are not too long
abbrev pub AreWritten : List (List ℕ × ℤ) → Type 0
AreWritten pairs = NoneBefore pairs (length pairs) × (total pairs ≤ 268_435_456)

-- no key has more units than the limit
abbrev pub AreShort : ℕ → List (List ℕ × ℤ) → Type 0
AreShort limit [] = Unit {0}
AreShort limit (pair ∷ pairs) = (length pair.0 ≤ limit) × AreShort limit pairs

-- why the keys are refused
abbrev pub Explains : List (List ℕ × ℤ) → WriteUnitsError → Type 0
Explains pairs (EmptyKey index) = NoneBefore pairs index × IsEmptyKey pairs index
Explains pairs (NotSorted index) = NoneBefore pairs index × (IsEmptyKey pairs index → ⊥) × IsUnsorted pairs index
Explains pairs TooLarge = NoneBefore pairs (length pairs) × (268_435_456 < total pairs)
Explains pairs Memory = AreWritten pairs

-- the error as it prints
abbrev pub error_text : WriteUnitsError → List ℕ
error_text (EmptyKey index) = codes "key " ++ decimal index ++ codes " is empty"
error_text (NotSorted index) = codes "key " ++ decimal index ++ codes " is not after the one before it"
error_text TooLarge = codes "the keys have over 268435456 units"
error_text Memory = codes "out of memory"
