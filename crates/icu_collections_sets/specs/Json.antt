-- Sets of code points as JSON: an array of texts that spell the ranges of the set.
use Rattle.std.specs.Prelude.{◌≡◌, ◌≢◌, ℕ, ◌-◌, ◌<◌, ◌≤◌, List, [], ◌∷◌, length, map, take, slice_index, slice_index_or, Some}
use Rattle.serde_json.specs.Data.{Data, null, string, array}
use Rattle.serde_json.specs.Find.{as_str, as_array}
use Rattle.serde_json.specs.View.{items_of}
use Rattle.icu_collections_sets.specs.CodePoints.{IsInversionList, ranges_of}
use Rattle.icu_collections_sets.specs.Spelling.{SpellsRange, range_text}

-- what a set is as JSON
abbrev pub json_of : List ℕ → Data
json_of set = array (items_of (map (λ range. string (range_text range)) (ranges_of set)))

-- a value is a text that spells a range
pub record IsItem (item : Data) (range : ℕ × ℕ) : Type 0 where
  pub text : List ℕ
  pub is_text : as_str item ≡ Some text
  pub spells : SpellsRange text range

-- values are texts that spell ranges, each its own
abbrev pub SpellRanges : List Data → List (ℕ × ℕ) → Type 0
SpellRanges [] [] = Unit {0}
SpellRanges [] (range ∷ ranges) = ⊥
SpellRanges (item ∷ items) [] = ⊥
SpellRanges (item ∷ items) (range ∷ ranges) = IsItem item range × SpellRanges items ranges

-- values are texts that spell the ranges of a set, in order
pub record SpellSet (items : List Data) (set : List ℕ) : Type 0 where
  pub spelled : SpellRanges items (ranges_of set)
  pub list : IsInversionList set

-- a value is an array that stands for a set
pub record IsJson (value : Data) (set : List ℕ) : Type 0 where
  pub items : List Data
  pub is_array : as_array value ≡ Some (items_of items)
  pub spell : SpellSet items set

-- the value at an index
abbrev pub item_at : List Data → ℕ → Data
item_at items index = slice_index_or items index null

-- the values before an index spell a set, and the value there spells no range
pub record IsItemFault (items : List Data) (index : ℕ) : Type 0 where
  pub within : index < length items
  pub set : List ℕ
  pub before : SpellSet (take index items) set
  pub no_range : (range : ℕ × ℕ) → ¬ IsItem (item_at items index) range

-- the values before an index spell a set, and the value there a range that begins at most one past the last code point of the one before
pub record IsOrderFault (items : List Data) (index : ℕ) : Type 0 where
  pub within : index < length items
  pub set : List ℕ
  pub before : SpellSet (take index items) set
  pub some : set ≢ []
  pub range : ℕ × ℕ
  pub item : IsItem (item_at items index) range
  pub begins : range.0 ≤ slice_index set (length set - 1)
