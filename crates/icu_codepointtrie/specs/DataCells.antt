-- The data cells of a trie in the making, as the numbers of their values.
use Rattle.std.specs.Prelude.{◌≡◌, ℕ, ◌+◌, ◌-◌, ◌*◌, ◌<◌, ◌≤◌, List, length, slice_index}
use Rattle.icu_codepointtrie.specs.Blocks.{AreKept}

-- `width` cells from the slot on have the values from a first one on
pub record Stands (values : List ℕ) (first : ℕ) (cells : List ℕ) (slot width : ℕ) : Type 0 where
  pub inside : slot + width ≤ length cells
  pub same : (i : ℕ) → i < width → slice_index cells (slot + i) ≡ slice_index values (first + i)

-- the cells are the old ones, and at most `most` after them
pub record Grows (old new : List ℕ) (most : ℕ) : Type 0 where
  pub longer : length old ≤ length new
  pub few : length new ≤ length old + most
  pub same : (i : ℕ) → i < length old → slice_index new i ≡ slice_index old i

-- the blocks of a width from the first to before the end stand at their slots
abbrev pub AllStand : ℕ → List ℕ → ℕ → ℕ → List ℕ → List ℕ → Type 0
AllStand width values first end cells slots = (b : ℕ) → first ≤ b → b < end → Stands values (b * width) cells (slice_index slots (b - first)) width

-- the count of cells is no more than different blocks of the width take, at most as many as the limit
abbrev pub TakeFew : ℕ → List ℕ → ℕ → ℕ → ℕ → ℕ → Type 0
TakeFew width values first end limit count = (kept : List ℕ) × AreKept width values first end kept × (length kept ≤ limit) × (count ≤ width * length kept)

-- a block is being put after the old cells: i of its values stand
pub record IsPutting (values : List ℕ) (first : ℕ) (old cells : List ℕ) (slot i : ℕ) : Type 0 where
  pub count : length cells ≡ slot + i
  pub longer : length old ≤ slot + i
  pub old_same : (k : ℕ) → k < length old → slice_index cells k ≡ slice_index old k
  pub same : (k : ℕ) → k < i → slice_index cells (slot + k) ≡ slice_index values (first + k)
