-- Where the tables of a built trie have each part. The index has a cell for each block of 64 below the
-- fast limit, then the first cells of three steps, the second cells, one for each block of 512 up to
-- the last run of one value, and the third blocks. The data cells are those of the first two blocks
-- of 64, then of the others and of the blocks of 16, then two.
use Rattle.std.specs.Prelude.{◌≡◌, ℕ, ◌+◌, ◌-◌, ◌*◌, ◌/◌, ◌^◌, ◌<◌, ◌≤◌, nat_lt, List, ◌++◌, length, slice_index, Some, if◌then◌else◌}
use Rattle.icu_codepointtrie.specs.declared.trie.TrieType.{TrieType}
use Rattle.icu_codepointtrie.specs.declared.builder.layout.Layout.{Layout}
use Rattle.icu_codepointtrie.specs.Slots.{fast_limit, fast_blocks, first_step, data_offset}
use Rattle.icu_codepointtrie.specs.DataCells.{Stands, TakeFew}

-- from a block of 512 on all values are that of the last code point
abbrev pub IsLastRun : List ℕ → ℕ → Type 0
IsLastRun values wide_end = (c : ℕ) → wide_end * 512 ≤ c → c < 0x11_0000 → slice_index values c ≡ slice_index values 0x10_FFFF

-- where the second cells of three steps begin: there is a first cell for each block of 2 ^ 14
abbrev pub second_start : TrieType → ℕ → ℕ
second_start trie_type wide_end = first_step trie_type + (wide_end + 31) / 32

-- where the third blocks begin
abbrev pub third_start : TrieType → ℕ → ℕ
third_start trie_type wide_end = second_start trie_type wide_end + (wide_end - fast_limit trie_type / 512)

-- the counts of the cells, and that each fits
pub record AreBounded (l : Layout) : Type 0 where
  pub from : fast_limit l.trie_type / 512 ≤ l.wide_end
  pub to : l.wide_end ≤ 0x880
  pub fast_count : length l.fast.items ≡ fast_limit l.trie_type / 64 - 2
  pub fast_small : (i : ℕ) → i < length l.fast.items → slice_index l.fast.items i < 2 ^ 16
  pub second_count : length l.seconds.items ≡ l.wide_end - fast_limit l.trie_type / 512
  pub second_small : (i : ℕ) → i < length l.seconds.items → slice_index l.seconds.items i < 2 ^ 16

-- where a block of 64 below the fast limit stands: the first two where they are for ASCII
abbrev pub fast_start : Layout → ℕ → ℕ
fast_start l b = if nat_lt b 2 then 64 * b else slice_index l.fast.items (b - 2)

-- the second cell of a block of 512 names a third block by which a block of 16 in it is found
abbrev pub IsFoundSmall : List ℕ → List ℕ → Layout → ℕ → ℕ → List ℕ → Type 0
IsFoundSmall values cells l w i head =
    (slot : ℕ) × (data_offset (head ++ l.thirds.items) (slice_index l.seconds.items (w - fast_limit l.trie_type / 512)) i ≡ Some slot)
    × Stands values (w * 512 + i * 16) cells slot 16

-- each block stands among the cells where the layout has it
pub record IsLayout (values cells : List ℕ) (l : Layout) : Type 0 where
  pub fast : (b : ℕ) → b < fast_blocks l.trie_type → Stands values (b * 64) cells (fast_start l b) 64
  pub small : (w i : ℕ) (head : List ℕ) → fast_limit l.trie_type / 512 ≤ w → w < l.wide_end → i < 32 → length head ≡ third_start l.trie_type l.wide_end → IsFoundSmall values cells l w i head
  pub run : IsLastRun values l.wide_end

-- how many different blocks of 16 there may be from the fast limit on: 12,000, and all below U+10000
abbrev pub small_room : TrieType → ℕ
small_room trie_type = 12000 + (0x1000 - fast_limit trie_type / 16)

-- the cells are no more than different blocks take, and 128
abbrev pub AreFew : List ℕ → TrieType → ℕ → ℕ → Type 0
AreFew values trie_type wide_end count = (fast small : ℕ)
    × TakeFew 64 values 2 (fast_limit trie_type / 64) (fast_limit trie_type / 64 - 2) fast
    × TakeFew 16 values (fast_limit trie_type / 16) (32 * wide_end) (small_room trie_type) small
    × (count ≤ 128 + fast + small)

-- the index cell at a slot before the third blocks
unfoldable pub index_cell : Layout → ℕ → ℕ
index_cell l slot =
    if nat_lt slot (fast_blocks l.trie_type) then fast_start l slot
    else if nat_lt slot (second_start l.trie_type l.wide_end) then second_start l.trie_type l.wide_end - fast_limit l.trie_type / 512 + 32 * (slot - first_step l.trie_type)
    else slice_index l.seconds.items (slot - second_start l.trie_type l.wide_end)

-- just these cells
pub record HasCells (l : Layout) (head : List ℕ) : Type 0 where
  pub count : length head ≡ third_start l.trie_type l.wide_end
  pub cells : (slot : ℕ) → slot < third_start l.trie_type l.wide_end → slice_index head slot ≡ index_cell l slot

-- the index has just these cells, and then the third blocks
abbrev pub HasIndex : Layout → List ℕ → Type 0
HasIndex l index = (head : List ℕ) × HasCells l head × (index ≡ head ++ l.thirds.items)
