-- Aligned blocks of a trie that are found through one cell of the index have the same values.
use Rattle.std.specs.Prelude.{◌≡◌, ℕ, ◌+◌, ◌-◌, ◌/◌, ◌%◌, ◌^◌, ◌<◌, ◌≤◌, ◌≢◌, Bool, nat_lt, List, length, Option, Some, slice_get, if◌then◌else◌}
use Rattle.icu_codepointtrie.specs.Slots.{TrieTables, found, data_offset, is_inside, slot_or_last, has_cell, value_at}
use Rattle.icu_codepointtrie.specs.Ranges.{IsConstant}

-- a block's key is its index cell where it is one of 64 below the fast limit, and 10000 (hex) more
-- than the cell that it is found by in the second step where it is one of 512 from there on
abbrev pub key_width : ℕ → ℕ
key_width key = if nat_lt key 0x1_0000 then 64 else 512

-- the slot that a key names for a number of the block
abbrev pub key_slot : List ℕ → ℕ → ℕ → Option ℕ
key_slot index key r =
    if nat_lt key 0x1_0000 then Some (key + r)
    else found (data_offset index (key - 0x1_0000) (r / 2 ^ 4)) (λ start. Some (start + r % 16))

-- the value there
abbrev pub key_value : {T : Type 0} → TrieTables T → ℕ → ℕ → Option T
key_value t key r = slice_get t.cells (slot_or_last (key_slot t.index key r) (length t.cells))

-- whether there is a cell
abbrev pub key_has_cell : {T : Type 0} → TrieTables T → ℕ → ℕ → Bool
key_has_cell t key r = is_inside (key_slot t.index key r) (length t.cells)

-- the block that begins at the code point has the key
pub record IsKey {T : Type 0} (t : TrieTables T) (c key : ℕ) : Type 0 where
  pub inside : c + key_width key ≤ 0x11_0000
  pub values : (r : ℕ) → r < key_width key → value_at t (c + r) ≡ key_value t key r
  pub cells : (r : ℕ) → r < key_width key → has_cell t (c + r) ≡ key_has_cell t key r

-- a block with the key has this value throughout
abbrev pub IsUniform : {T : Type 0} → TrieTables T → T → ℕ → Type 0
IsUniform t value key = (r : ℕ) → r < key_width key → key_value t key r ≡ Some value

-- from the limit on all code points have one value
abbrev pub IsTail : {T : Type 0} → TrieTables T → ℕ → Type 0
IsTail t limit = (c d : ℕ) → limit ≤ c → c ≤ 0x10_FFFF → limit ≤ d → d ≤ 0x10_FFFF → value_at t c ≡ value_at t d

-- from the limit on the trie has a cell for every code point, or for none
abbrev pub IsCellTail : {T : Type 0} → TrieTables T → ℕ → Type 0
IsCellTail t limit = (c d : ℕ) → limit ≤ c → c ≤ 0x10_FFFF → limit ≤ d → d ≤ 0x10_FFFF → has_cell t c ≡ has_cell t d

-- the first code point of those from start to before the end that has not the value, or the end
pub record IsFirstWithout {T : Type 0} (t : TrieTables T) (start end : ℕ) (value : T) (first : ℕ) : Type 0 where
  pub from : start ≤ first
  pub to : first ≤ end
  pub constant : IsConstant t start first value
  pub differs : first < end → value_at t first ≢ Some value
