-- Runs of code points of one value that all have a cell, or of which none has one.
use Rattle.std.specs.Prelude.{◌≡◌, ℕ, ◌<◌, ◌≤◌, Bool, Some}
use Rattle.icu_codepointtrie.specs.Slots.{TrieTables, has_cell, value_at}
use Rattle.icu_codepointtrie.specs.SharedBlocks.{key_width, key_value, key_has_cell}

-- the code point has the value, and a cell or none
abbrev pub IsAsSaid : {T : Type 0} → TrieTables T → T → Bool → ℕ → Type 0
IsAsSaid t value owned c = (value_at t c ≡ Some value) × (has_cell t c ≡ owned)

-- so has each from start to before the end
abbrev pub AreAsSaid : {T : Type 0} → TrieTables T → T → Bool → ℕ → ℕ → Type 0
AreAsSaid t value owned start end = (c : ℕ) → start ≤ c → c < end → IsAsSaid t value owned c

-- so has each of a block with the key
abbrev pub IsKeyAsSaid : {T : Type 0} → TrieTables T → T → Bool → ℕ → Type 0
IsKeyAsSaid t value owned key = (r : ℕ) → r < key_width key → (key_value t key r ≡ Some value) × (key_has_cell t key r ≡ owned)

-- the first code point from start to before the end of which that is not so, or the end
pub record IsFirstOther {T : Type 0} (t : TrieTables T) (value : T) (owned : Bool) (start end first : ℕ) : Type 0 where
  pub from : start ≤ first
  pub to : first ≤ end
  pub alike : AreAsSaid t value owned start first
  pub differs : first < end → IsAsSaid t value owned first → ⊥

-- the end of the longest run that begins at start: each code point of it has the value of start, and a cell where
-- start has one; the code point at the end, where there is one, has another value, or differs in having a cell
pub record IsEndOfCells {T : Type 0} (t : TrieTables T) (start end : ℕ) : Type 0 where
  pub not_empty : start < end
  pub in_range : end ≤ 0x11_0000
  pub values : (c : ℕ) → start ≤ c → c < end → value_at t c ≡ value_at t start
  pub cells : (c : ℕ) → start ≤ c → c < end → has_cell t c ≡ has_cell t start
  pub maximal : end < 0x11_0000 → value_at t end ≡ value_at t start → has_cell t end ≡ has_cell t start → ⊥
