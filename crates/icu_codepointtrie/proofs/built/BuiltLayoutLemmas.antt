-- Blocks stand where a layout has them.
use Rattle.std.proofs.Common.{◌≡◌, ℕ, ◌+◌, ◌-◌, ◌*◌, ◌/◌, ◌^◌, ◌<◌, ◌≤◌, nat_lt, List, ◌++◌, length, map, get_or, sym, ap, ◌∙◌, subst, arith, ⊎_elim, if◌then◌else◌}
use Rattle.std.specs.Prelude.{slice_index, Some}
use Rattle.std.proofs.lemmas.Bool.{lt-ltb, le-ltb, cases_lt}
use Rattle.std.proofs.lemmas.List.{get_or-map, length-map}
use Rattle.icu_codepointtrie.specs.Slots.{fast_limit, data_offset}
use Rattle.icu_codepointtrie.specs.declared.builder.layout.Layout.{Layout}
use Rattle.icu_codepointtrie.specs.Layouts.{AreBounded, IsLayout, IsLastRun, third_start}
use Rattle.icu_codepointtrie.proofs.built.BuiltTrieLemmas.{type_facts}
use Rattle.icu_codepointtrie.specs.Blocks.{AreKept, AreSlots}
use Rattle.icu_codepointtrie.specs.DataCells.{Stands, Grows, AllStand}
use Rattle.icu_codepointtrie.specs.IndexBlocks.{Gives}
use Rattle.icu_codepointtrie.proofs.built.BlockLemmas.{at_block}
use Rattle.icu_codepointtrie.proofs.built.DataCellLemmas.{Stands-grown}

-- where blocks stand is within the cells
pub slots_inside : (width : ℕ) (values : List ℕ) (first end : ℕ) (cells slots : List ℕ) → length slots ≡ end - first → AllStand width values first end cells slots
    → (i : ℕ) → i < length slots → slice_index slots i + width ≤ length cells
slots_inside width values first end cells slots count stand i h =
    let sum : first + i - first ≡ i = omega arith in
    rw sum at (stand (first + i) (omega arith) (omega arith)).inside

-- the blocks of 64, of which the first two stand first
pub fast_stands : (values one two three fast : List ℕ) (end a b : ℕ) → Stands values 0 one 0 128 → Grows one two a → AllStand 64 values 2 end two fast → Grows two three b
    → (n : ℕ) → n < end → Stands values (n * 64) three (if nat_lt n 2 then 64 * n else slice_index fast (n - 2)) 64
fast_stands values one two three fast end a b first more stand most n inside =
    ⊎_elim
    (λ low.
    let bound = first.inside in
    let here : Stands values (n * 64) one (64 * n) 64 =
    record {
      inside = omega arith;
      same = λ i h.
          let same : 64 * n + i ≡ n * 64 + i = omega arith in
          let zero : 0 + (n * 64 + i) ≡ n * 64 + i = omega arith in
          rw same (rw zero at (first.same (n * 64 + i) (omega arith)));
    } in
    rw (lt-ltb n 2 low) (Stands-grown values (n * 64) two three (64 * n) 64 b (Stands-grown values (n * 64) one two (64 * n) 64 a here more) most))
    (λ high. rw (le-ltb n 2 high) (Stands-grown values (n * 64) two three (slice_index fast (n - 2)) 64 b (stand n high inside) most))
    (cases_lt n 2)

-- the blocks of 16, found by the third block that the second cell of a block of 512 names
pub small_found : (values cells small entries kept at thirds : List ℕ) (start from end first : ℕ) → first ≡ 32 * from → ((b : ℕ) → b < end → b * 512 + 512 ≤ length values)
    → AreKept 512 values from end kept → AreSlots 512 values from end at kept → AllStand 16 values first (32 * end) cells small
    → ((n : ℕ) → n < length kept → Gives start thirds (slice_index entries n) small ((slice_index kept n - from) * 32))
    → (w i : ℕ) (head : List ℕ) → from ≤ w → w < end → i < 32 → length head ≡ start
    → (slot : ℕ) × (data_offset (head ++ thirds) (slice_index (map (slice_index entries) at) (w - from)) i ≡ Some slot) × Stands values (w * 512 + i * 16) cells slot 16
small_found values cells small entries kept at thirds start from end first is whole are slots stand gives w i head low high inside head_is =
    let count : length at ≡ end - from = slots.count in
    let n : ℕ = slice_index at (w - from) in
    let n_kept : n < length kept = slots.inside (w - from) (omega arith) in
    let second : slice_index (map (slice_index entries) at) (w - from) ≡ slice_index entries n = get_or-map (slice_index entries) at (w - from) 0 0 (omega arith) in
    let k : ℕ = slice_index kept n in
    let k_low : from ≤ k = are.from n n_kept in
    let k_high : k < end = are.before n n_kept in
    let b : ℕ = k * 32 + i in
    let slot : b - first ≡ (k - from) * 32 + i = omega arith in
    let here : Stands values (b * 16) cells (slice_index small ((k - from) * 32 + i)) 16 = rw slot at (stand b (omega arith) (omega arith)) in (
      slice_index small ((k - from) * 32 + i),
      rw second ((gives n n_kept).offsets head head_is i inside),
      record {
        inside = here.inside;
        same = λ r h.
            let one : b * 16 + r ≡ k * 512 + (i * 16 + r) = omega arith in
            let other : w * 512 + (i * 16 + r) ≡ w * 512 + i * 16 + r = omega arith in
            here.same r h ∙ ap (λ c. slice_index values c) one
            ∙ sym (at_block 512 values k (i * 16 + r) (whole k k_high) (omega arith))
            ∙ ap (λ (xs : List ℕ). get_or xs (i * 16 + r) 0) (slots.alike w low high)
            ∙ at_block 512 values w (i * 16 + r) (whole w high) (omega arith)
            ∙ ap (λ c. slice_index values c) other;
      },
    )

-- what the second cells have fits a cell
pub seconds_small : (small entries kept at thirds : List ℕ) (start from : ℕ) → ((i : ℕ) → i < length at → slice_index at i < length kept)
    → ((n : ℕ) → n < length kept → Gives start thirds (slice_index entries n) small ((slice_index kept n - from) * 32))
    → (i : ℕ) → i < length at → slice_index (map (slice_index entries) at) i < 2 ^ 16
seconds_small small entries kept at thirds start from inside gives i h =
    rw (get_or-map (slice_index entries) at i 0 0 h) ((gives (slice_index at i) (inside i h)).fits)

-- so a layout of these parts has each block
pub IsLayout-made : (values one two cells : List ℕ) (most_fast most_small : ℕ) (l : Layout) (limit : ℕ) (small entries kept at : List ℕ) → limit ≡ fast_limit l.trie_type → length values ≡ 0x11_0000 → l.wide_end ≤ 0x880
    → Stands values 0 one 0 128 → Grows one two most_fast → AllStand 64 values 2 (limit / 64) two l.fast.items → Grows two cells most_small
    → l.seconds.items ≡ map (slice_index entries) at
    → AreKept 512 values (limit / 512) l.wide_end kept → AreSlots 512 values (limit / 512) l.wide_end at kept → AllStand 16 values (limit / 16) (32 * l.wide_end) cells small
    → ((n : ℕ) → n < length kept → Gives (third_start l.trie_type l.wide_end) l.thirds.items (slice_index entries n) small ((slice_index kept n - limit / 512) * 32))
    → IsLastRun values l.wide_end → IsLayout values cells l
IsLayout-made values one two cells most_fast most_small l limit small entries kept at is count to first more fast most seconds are slots stand gives run =
    let x = type_facts l.trie_type in
    record {
      fast = fast_stands values one two cells l.fast.items (fast_limit l.trie_type / 64) most_fast most_small first more (subst (λ n. AllStand 64 values 2 (n / 64) two l.fast.items) is fast) most;
      small = λ w i head low high inside head_is.
          let from : limit / 512 ≤ w = omega arith in
          let found = small_found values cells small entries kept at l.thirds.items (third_start l.trie_type l.wide_end) (limit / 512) l.wide_end (limit / 16) (omega (arith, x.1, x.2)) (λ b h. omega arith) are slots stand gives w i head from high inside head_is in
          subst (λ n. (slot : ℕ) × (data_offset (head ++ l.thirds.items) (slice_index l.seconds.items (w - n / 512)) i ≡ Some slot) × Stands values (w * 512 + i * 16) cells slot 16) is (rw seconds found);
      run = run;
    }

-- and its cells are bounded
pub AreBounded-made : (values two : List ℕ) (l : Layout) (limit : ℕ) (small entries kept at : List ℕ) → limit ≡ fast_limit l.trie_type → limit / 512 ≤ l.wide_end → l.wide_end ≤ 0x880
    → length two ≤ 65536 → length l.fast.items ≡ limit / 64 - 2 → AllStand 64 values 2 (limit / 64) two l.fast.items
    → l.seconds.items ≡ map (slice_index entries) at → AreSlots 512 values (limit / 512) l.wide_end at kept
    → ((n : ℕ) → n < length kept → Gives (third_start l.trie_type l.wide_end) l.thirds.items (slice_index entries n) small ((slice_index kept n - limit / 512) * 32)) → AreBounded l
AreBounded-made values two l limit small entries kept at is from to few count fast seconds slots gives =
    let longer = length-map at (slice_index entries) in
    let wide : length at ≡ l.wide_end - limit / 512 = slots.count in
    record {
      from = omega arith;
      to = to;
      fast_count = omega arith;
      fast_small = λ i h. omega (arith, slots_inside 64 values 2 (limit / 64) two l.fast.items count fast i h);
      second_count = rw seconds (omega (arith, longer));
      second_small = rw seconds (λ i h. seconds_small small entries kept at l.thirds.items (third_start l.trie_type l.wide_end) (limit / 512) slots.inside gives i (omega (arith, longer)));
    }
