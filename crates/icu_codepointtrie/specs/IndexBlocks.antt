-- The third index blocks of a trie in the making: the slots among the data cells of the 32 blocks of
-- 16 in a block of 512. A block has 32 cells where each of the slots fits 16 bits, and else 36: in
-- groups of nine cells for eight slots.
use Rattle.std.specs.Prelude.{◌≡◌, ℕ, zero, suc, ◌+◌, ◌-◌, ◌*◌, ◌/◌, ◌%◌, ◌^◌, ◌<◌, ◌==◌, List, ◌++◌, length, slice_index, Some, if◌then◌else◌}
use Rattle.icu_codepointtrie.specs.Slots.{data_offset}

-- two bits of each of several numbers, those of the first highest
abbrev pub joined : (ℕ → ℕ) → ℕ → ℕ
joined bits zero = 0
joined bits (suc n) = joined bits n * 4 + bits n

-- the upper bits of eight slots from a first one on
unfoldable pub upper_cell : List ℕ → ℕ → ℕ
upper_cell slots first = joined (λ i. slice_index slots (first + i) / 2 ^ 16) 8

-- a cell of a block of 36
abbrev pub wide_cell : List ℕ → ℕ → ℕ → ℕ
wide_cell slots first k =
    if k % 9 == 0 then upper_cell slots (first + k / 9 * 8)
    else slice_index slots (first + k / 9 * 8 + (k % 9 - 1)) % 2 ^ 16

-- a block of 36 is being put after the old cells
pub record HasWide (slots : List ℕ) (first : ℕ) (old new : List ℕ) (count : ℕ) : Type 0 where
  pub longer : length new ≡ length old + count
  pub old_same : (k : ℕ) → k < length old → slice_index new k ≡ slice_index old k
  pub same : (k : ℕ) → k < count → slice_index new (length old + k) ≡ wide_cell slots first k

-- the entry names a third block with 32 slots from a first one on, where the third blocks begin at `start`
pub record Gives (start : ℕ) (thirds : List ℕ) (entry : ℕ) (slots : List ℕ) (first : ℕ) : Type 0 where
  pub fits : entry < 2 ^ 16
  pub offsets : (head : List ℕ) → length head ≡ start → (i : ℕ) → i < 32 → data_offset (head ++ thirds) entry i ≡ Some (slice_index slots (first + i))
