-- Aligned blocks of values, told apart by the values' numbers.
use Rattle.std.specs.Prelude.{◌≡◌, ◌≢◌, ℕ, ◌+◌, ◌-◌, ◌*◌, ◌/◌, ◌<◌, ◌≤◌, Bool, Option, List, drop, length, map, slice_range, slice_index, nat_eq, MatchOption}
use Rattle.std.specs.List.{range_with_len, IsDistinct}
use Rattle.std.specs.Set.{distinct_count}
use Rattle.std.specs.Cmp.Lexicographic.{pointwise}
use Rattle.std.specs.HashMap.{HashMap, get}
use Rattle.icu_codepointtrie.specs.declared.builder.blocks.Block.{Block}

-- the block of a width that begins at the block's number times the width
abbrev pub block : ℕ → List ℕ → ℕ → List ℕ
block width numbers i = slice_range numbers (i * width) (i * width + width)

-- the aligned blocks of a width that the list has whole
abbrev pub blocks : ℕ → List ℕ → List (List ℕ)
blocks width numbers = map (block width numbers) (range_with_len 0 (length numbers / width))

-- how many different blocks those are, where a block counts once however often it comes
unfoldable pub different_blocks : {T : Type 0} → (T → ℕ) → ℕ → List T → ℕ
different_blocks number width values = distinct_count (pointwise nat_eq) (blocks width (map number values))

-- the code point from which on a trie of either type has blocks of 16
unfoldable pub upper_start : ℕ
upper_start = 0x1_0000

-- how many different blocks of 16 there are from there on
abbrev pub upper_blocks : {T : Type 0} → (T → ℕ) → List T → ℕ
upper_blocks number values = different_blocks number 16 (drop upper_start values)

-- blocks of those between two numbers, no two of them alike
pub record AreKept (width : ℕ) (values : List ℕ) (first end : ℕ) (kept : List ℕ) : Type 0 where
  pub from : (i : ℕ) → i < length kept → first ≤ slice_index kept i
  pub before : (i : ℕ) → i < length kept → slice_index kept i < end
  pub whole : (i : ℕ) → i < length kept → slice_index kept i * width + width ≤ length values
  pub few : length kept ≤ end - first
  pub different : IsDistinct (pointwise nat_eq) (map (block width values) kept)

-- for each block from the first to before the end the slot among the kept ones of one that is like it
pub record AreSlots (width : ℕ) (values : List ℕ) (first end : ℕ) (slots kept : List ℕ) : Type 0 where
  pub count : length slots ≡ end - first
  pub inside : (i : ℕ) → i < length slots → slice_index slots i < length kept
  pub alike : (b : ℕ) → first ≤ b → b < end → block width values (slice_index kept (slice_index slots (b - first))) ≡ block width values b

-- the slot is that of a kept block which is like this one
abbrev pub IsKeptAt : ℕ → List ℕ → ℕ → List ℕ → ℕ → Type 0
IsKeptAt width values number kept slot = (slot < length kept) × (block width values (slice_index kept slot) ≡ block width values number)

-- more than `limit` different blocks are between two numbers
abbrev pub HasMore : ℕ → List ℕ → ℕ → ℕ → ℕ → Type 0
HasMore width values first end limit = (kept : List ℕ) × AreKept width values first end kept × (limit < length kept)

-- whether two blocks have the same numbers
abbrev pub has_same_numbers : Block → Block → Bool
has_same_numbers x y = pointwise nat_eq x.numbers.items y.numbers.items

-- the slot of the kept block with these numbers, or none where no kept block has them
abbrev pub IsFound : ℕ → List ℕ → List ℕ → List ℕ → Option ℕ → Type 0
IsFound width values kept numbers found = MatchOption found
    ((i : ℕ) → i < length kept → block width values (slice_index kept i) ≢ numbers)
    (λ slot. (slot < length kept) × (block width values (slice_index kept slot) ≡ numbers))

-- the map finds the kept blocks, and nothing else, by their numbers
abbrev pub FindsKept : {S : Type 0} → ℕ → List ℕ → List ℕ → HashMap Block ℕ S → Type 0
FindsKept width values kept found = (q : Block) → IsFound width values kept q.numbers.items (get has_same_numbers found q)
