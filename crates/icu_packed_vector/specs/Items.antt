-- Items of one width, packed into bytes one after another.
use Rattle.std.specs.Prelude.{◌≡◌, ◌≢◌, ℕ, ◌*◌, ◌/◌, ◌%◌, ◌<◌, List, map, take, drop, length}
use Rattle.std.specs.List.{range_with_len}
use Rattle.icu_packed_vector.specs.declared.PackedVecError.{PackedVecError}
use Rattle.icu_packed_vector.specs.declared.PackedVecError.TheVariants.{OddLength, BadValue}

-- the bytes of the item at an index
abbrev pub item_bytes : ℕ → List ℕ → ℕ → List ℕ
item_bytes width bytes index = take width (drop (index * width) bytes)

-- the items that the bytes mean
unfoldable pub items_of : {T : Type 0} → ℕ → (List ℕ → T) → List ℕ → List T
items_of width meaning bytes = map (λ index. meaning (item_bytes width bytes index)) (range_with_len 0 (length bytes / width))

-- the bytes are whole items, each of them good
pub record AreItems (width : ℕ) (IsGood : List ℕ → Type 0) (bytes : List ℕ) : Type 0 where
  pub whole : length bytes % width ≡ 0
  pub each : (index : ℕ) → index < length bytes / width → IsGood (item_bytes width bytes index)

-- why bytes are refused: they end within an item, or the item at the index is the first that is not good
abbrev pub IsRefused : ℕ → (List ℕ → Type 0) → List ℕ → PackedVecError → Type 0
IsRefused width IsGood bytes OddLength = length bytes % width ≢ 0
IsRefused width IsGood bytes (BadValue index) =
    (length bytes % width ≡ 0) × (index < length bytes / width) × (¬ IsGood (item_bytes width bytes index))
    × ((before : ℕ) → before < index → IsGood (item_bytes width bytes before))
