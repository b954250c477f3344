-- Where the cell of a code point stands among a trie's data cells. Numbers of index cells are
-- below 2 ^ 16; a code point is split into parts of 6, or of 5, 5 and 4 bits.
use Rattle.std.specs.Prelude.{◌≡◌, ℕ, ◌+◌, ◌-◌, ◌*◌, ◌/◌, ◌%◌, ◌^◌, ◌<◌, ◌≤◌, nat_lt, List, length, Option, Some, None, slice_get, slice_index, if◌then◌else◌, Bool, false}
use Rattle.icu_codepointtrie.specs.declared.trie.TrieType.{TrieType}
use Rattle.icu_codepointtrie.specs.declared.trie.TrieType.TheVariants.{Fast, Small}
use Rattle.icu_codepointtrie.specs.declared.trie.CodePointTrieHeader.{CodePointTrieHeader}
use Rattle.icu_codepointtrie.specs.declared.trie.CodePointTrieError.{CodePointTrieError}
use Rattle.icu_codepointtrie.specs.declared.trie.CodePointTrieError.TheVariants.{EmptyDataVector, IndexTooShortForFastAccess, DataTooShortForFastAccess}

-- a trie's header, index cells and data cells
pub record TrieTables (T : Type 0) : Type 0 where
  pub header : CodePointTrieHeader
  pub index : List ℕ
  pub cells : List T

-- from this code point on a slot is found in three steps
abbrev pub fast_limit : TrieType → ℕ
fast_limit Fast = 0x1_0000
fast_limit Small = 0x1000

-- what is found by the index cell at a slot, where it stands within the index
abbrev pub found : Option ℕ → (ℕ → Option ℕ) → Option ℕ
found None next = None
found (Some cell) next = next cell

-- below the fast limit
abbrev pub fast_slot : List ℕ → ℕ → Option ℕ
fast_slot index c = found (slice_get index (c / 64)) (λ start. Some (start + c % 64))

-- an offset of 18 bits, in groups of nine cells for eight offsets: the first cell of a group has
-- their upper two bits, those of the first offset highest
abbrev pub wide_offset : List ℕ → ℕ → ℕ → Option ℕ
wide_offset index groups i =
    found (slice_get index (groups + i / 8 * 9)) (λ upper.
    found (slice_get index (groups + i / 8 * 9 + 1 + i % 8)) (λ lower.
    Some (upper / 2 ^ (14 - 2 * (i % 8)) % 4 * 2 ^ 16 + lower)))

-- the offset of the data block with number i of 32: of 18 bits where the highest bit is set
abbrev pub data_offset : List ℕ → ℕ → ℕ → Option ℕ
data_offset index block i = if nat_lt block 0x8000 then slice_get index (block + i) else wide_offset index (block % 0x8000) i

-- where the first of the three steps begins: after the index cells for what is below the fast limit
abbrev pub first_step : TrieType → ℕ
first_step Fast = 1020
first_step Small = 64

-- from the fast limit on, in three steps
abbrev pub small_slot : TrieType → List ℕ → ℕ → Option ℕ
small_slot trie_type index c =
    found (slice_get index (c / 2 ^ 14 + first_step trie_type)) (λ second.
    found (slice_get index (second + c / 2 ^ 9 % 32)) (λ block.
    found (data_offset index block (c / 2 ^ 4 % 32)) (λ start.
    Some (start + c % 16))))

-- the slot that header and index name, of `count` data cells: past the last code point the last,
-- from the header's limit on the last but one
abbrev pub named_slot : CodePointTrieHeader → List ℕ → ℕ → ℕ → Option ℕ
named_slot header index count c =
    if nat_lt 0x10_FFFF c then Some (count - 1)
    else if nat_lt c (fast_limit header.trie_type) then fast_slot index c
    else if nat_lt c header.high_start then small_slot header.trie_type index c
    else if nat_lt count 2 then None
    else Some (count - 2)

-- whether a slot is among `count` cells
abbrev pub is_inside : Option ℕ → ℕ → Bool
is_inside None count = false
is_inside (Some slot) count = nat_lt slot count

-- the slot itself, or of a slot outside the last
abbrev pub slot_or_last : Option ℕ → ℕ → ℕ
slot_or_last None count = count - 1
slot_or_last (Some slot) count = if nat_lt slot count then slot else count - 1

-- the slot of a code point's cell
abbrev pub cell_slot : {T : Type 0} → TrieTables T → ℕ → ℕ
cell_slot t c = slot_or_last (named_slot t.header t.index (length t.cells) c) (length t.cells)

-- whether a trie has a cell for the code point
abbrev pub has_cell : {T : Type 0} → TrieTables T → ℕ → Bool
has_cell t c = is_inside (named_slot t.header t.index (length t.cells) c) (length t.cells)

-- what a trie maps the code point to
abbrev pub value_at : {T : Type 0} → TrieTables T → ℕ → Option T
value_at t c = slice_get t.cells (cell_slot t c)

-- how many index cells the code points below the fast limit take
abbrev pub fast_blocks : TrieType → ℕ
fast_blocks trie_type = fast_limit trie_type / 64

-- each of the first `blocks` blocks of 64 stands within `count` data cells
abbrev pub HasFastCells : List ℕ → ℕ → ℕ → Type 0
HasFastCells index blocks count = (i : ℕ) → i < blocks → slice_index index i + 63 < count

-- the tables are those of a trie
pub record IsTrie {T : Type 0} (t : TrieTables T) : Type 0 where
  pub some_cell : 1 ≤ length t.cells
  pub fast_index : fast_blocks t.header.trie_type ≤ length t.index
  pub fast_cells : HasFastCells t.index (fast_blocks t.header.trie_type) (length t.cells)

-- why tables are not those of a trie, by the first cause of three
abbrev pub IsRefused : {T : Type 0} → TrieTables T → CodePointTrieError → Type 0
IsRefused t EmptyDataVector = length t.cells ≡ 0
IsRefused t IndexTooShortForFastAccess = (1 ≤ length t.cells) × (length t.index < fast_blocks t.header.trie_type)
IsRefused t DataTooShortForFastAccess =
    (1 ≤ length t.cells) × (fast_blocks t.header.trie_type ≤ length t.index)
    × ¬ HasFastCells t.index (fast_blocks t.header.trie_type) (length t.cells)
