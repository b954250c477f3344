-- What a built trie reads.
use Rattle.std.specs.Prelude.{◌≡◌, ℕ, ◌<◌, ◌≤◌, List, [], ◌∷◌, ◌++◌, slice_index, Some, true}
use Rattle.icu_codepointtrie.specs.CodePointMaps.{CodePointMap, mapped}
use Rattle.icu_codepointtrie.specs.Slots.{TrieTables, value_at, has_cell}

-- the trie has the map's type, a cell for each number, in it the map's value of a code point, and
-- past the last code point the error value
pub record IsTrieOf {T : Type 0} (m : CodePointMap T) (t : TrieTables T) : Type 0 where
  pub trie_type : t.header.trie_type ≡ m.trie_type
  pub cells : (c : ℕ) → has_cell t c ≡ true
  pub within : (c : ℕ) → c ≤ 0x10_FFFF → value_at t c ≡ Some (mapped m c)
  pub past : (c : ℕ) → 0x10_FFFF < c → value_at t c ≡ Some m.error

-- the data cells and two more: the value of the last code point, and the error value
abbrev pub AreAllCells : {T : Type 0} → (T → ℕ) → List ℕ → List T → T → List T → Type 0
AreAllCells {T} number values stored error cells = (last : T) × (number last ≡ slice_index values 0x10_FFFF) × (cells ≡ stored ++ last ∷ error ∷ [])
