-- How many different blocks there are.
use Rattle.std.proofs.Common.{◌≡◌, ℕ, ◌+◌, ◌-◌, ◌*◌, ◌/◌, ◌<◌, ◌≤◌, ◌||◌, Bool, true, false, cond, List, [], ◌∷◌, length, map, take, drop, refl, sym, ap, ◌∙◌, subst, arith}
use Rattle.std.specs.Prelude.{slice_index, nat_eq}
use Rattle.std.specs.List.{IsDistinct, Contains, range_with_len}
use Rattle.std.specs.Set.{unique_keys, distinct_count, is_member}
use Rattle.std.specs.Cmp.Lexicographic.{pointwise}
use Rattle.std.proofs.lemmas.Bool.{false_from_ne_true, both_ways}
use Rattle.std.proofs.lemmas.Cmp.{nat_list_eq_equiv}
use Rattle.std.proofs.lemmas.List.{get_or-map, length-map, length-drop, length-take-le, drop-take, take-take, drop-drop, take-map, drop-map}
use Rattle.std.proofs.lemmas.List.Folds.{list_any_at}
use Rattle.std.proofs.lemmas.List.Elements.{recursion_from_All}
use Rattle.std.proofs.lemmas.List.FromFn.{length-map-range_with_len, get_or-map-range_with_len}
use Rattle.std.proofs.lemmas.Map.Made.{length-le_from_is_member, is_member-Decides, distinct_count-le}
use Rattle.std.proofs.lemmas.Map.Steps.{list_any_congr}
use Rattle.std.proofs.lemmas.Nat.{mul-le, div-add-mod'}
use Rattle.std.proofs.lemmas.Slice.Eq.{bytes_eq-Decides}
use Rattle.icu_codepointtrie.specs.Blocks.{block, blocks, different_blocks, AreKept, HasMore}
use Rattle.icu_codepointtrie.specs.Slots.{fast_limit}
use Rattle.icu_codepointtrie.specs.Layouts.{AreFew}
use Rattle.icu_codepointtrie.specs.declared.trie.TrieType.{TrieType}
use Rattle.icu_codepointtrie.proofs.built.BuiltTrieLemmas.{type_facts}

-- whether two blocks have the same numbers
abbrev pub Same : List ℕ → List ℕ → Bool
Same = pointwise nat_eq

-- a list without repetitions has the items of the list
members_kept : (xs : List (List ℕ)) (q : List ℕ) → is_member Same (unique_keys Same xs) q ≡ is_member Same xs q
members_kept [] q = refl
members_kept (x ∷ xs) q = by (is_member Same xs x) (Same q x) refl refl (members_kept xs q) where
  by : (b c : Bool) → is_member Same xs x ≡ b → Same q x ≡ c → is_member Same (unique_keys Same xs) q ≡ is_member Same xs q → is_member Same (cond b (unique_keys Same xs) (x ∷ unique_keys Same xs)) q ≡ (c || is_member Same xs q)
  by true true m t r = r ∙ list_any_congr nat_list_eq_equiv q x xs t ∙ m
  by true false m t r = r
  by false c m t r = rw t (ap (λ v. c || v) r)

-- and no item twice
kept_distinct : (xs : List (List ℕ)) → IsDistinct Same (unique_keys Same xs)
unfolding IsDistinct
kept_distinct [] = tt
kept_distinct (x ∷ xs) = by (is_member Same xs x) refl (kept_distinct xs) where
  by : (b : Bool) → is_member Same xs x ≡ b → IsDistinct Same (unique_keys Same xs) → IsDistinct Same (cond b (unique_keys Same xs) (x ∷ unique_keys Same xs))
  by true m r = r
  by false m r =
      (recursion_from_All (λ (y : List ℕ). Same x y ≡ false) (unique_keys Same xs) (λ k d h. false_from_ne_true _ (λ t. both_ways _ (members_kept xs x ∙ m) (list_any_at (Same x) (unique_keys Same xs) k d h t))), r)

-- distinct items of a list are at most as many as the list has different ones
pub distinct_below : (ns ys : List (List ℕ)) → IsDistinct Same ns → ((q : List ℕ) → Contains ns q → Contains ys q) → length ns ≤ distinct_count Same ys
distinct_below ns ys distinct covered =
    length-le_from_is_member nat_list_eq_equiv ns (unique_keys Same ys) distinct
    (λ q m. members_kept ys q ∙ (is_member-Decides bytes_eq-Decides ys q).1 (covered q ((is_member-Decides bytes_eq-Decides ns q).0 m)))

-- where each item of one list is one of the other
pub count_below : (xs ys : List (List ℕ)) → ((q : List ℕ) → Contains xs q → Contains ys q) → distinct_count Same xs ≤ distinct_count Same ys
count_below xs ys covered =
    distinct_below (unique_keys Same xs) ys (kept_distinct xs)
    (λ q m. covered q ((is_member-Decides bytes_eq-Decides xs q).0 (sym (members_kept xs q) ∙ (is_member-Decides bytes_eq-Decides (unique_keys Same xs) q).1 m)))

-- a block is one of the blocks
pub block_among : (width : ℕ) (values : List ℕ) (j : ℕ) (q : List ℕ) → j < length values / width → block width values j ≡ q → Contains (blocks width values) q
block_among width values j q inside is = (
  j,
  rw (length-map-range_with_len (block width values) 0 (length values / width)) inside,
  get_or-map-range_with_len (block width values) 0 (length values / width) j j q inside (omega arith) ∙ is,
)

-- and one of the blocks is a block
pub among_blocks : (width : ℕ) (values : List ℕ) (q : List ℕ) → Contains (blocks width values) q → (j : ℕ) × (j < length values / width) × (block width values j ≡ q)
among_blocks width values q (j, inside, is) =
    let below : j < length values / width = rw (length-map-range_with_len (block width values) 0 (length values / width)) at inside in
    (j, below, sym (get_or-map-range_with_len (block width values) 0 (length values / width) j j q below (omega arith)) ∙ is)

-- kept blocks are at most as many as there are different ones in a list that has them all
pub kept_count : (width first end : ℕ) (xs ys kept : List ℕ) → AreKept width xs first end kept
    → ((b : ℕ) → first ≤ b → b < end → (j : ℕ) × (j < length ys / width) × (block width ys j ≡ block width xs b))
    → length kept ≤ distinct_count Same (blocks width ys)
kept_count width first end xs ys kept are covered =
    rw (length-map kept (block width xs)) at (distinct_below (map (block width xs) kept) (blocks width ys) are.different among) where
      among : (q : List ℕ) → Contains (map (block width xs) kept) q → Contains (blocks width ys) q
      among q (k, inside, is) =
          let below : k < length kept = rw (length-map kept (block width xs)) at inside in
          let b : ℕ = slice_index kept k in
          let from = covered b (are.from k below) (are.before k below) in
          block_among width ys from.0 q from.1 (from.2 ∙ sym (get_or-map (block width xs) kept k 0 q below) ∙ is)

-- each of `n / width` blocks is whole
pub whole_block : (width n j : ℕ) → j < n / width → j * width + width ≤ n
whole_block width n j inside = omega (arith, mul-le (j + 1) width (n / width) width (omega arith) (omega arith), div-add-mod' n width)

-- of the numbers of the values before a multiple of 64
block_of_take : (xs : List ℕ) (limit b : ℕ) → b * 64 + 64 ≤ limit → block 64 (take limit xs) b ≡ block 64 xs b
block_of_take xs limit b inside =
    let parts : b * 64 + (limit - b * 64) ≡ limit = omega arith in
    let front : drop (b * 64) (take limit xs) ≡ take (limit - b * 64) (drop (b * 64) xs) = rw parts at (drop-take (b * 64) (limit - b * 64) xs) in
    rw front (take-take (b * 64 + 64 - b * 64) (limit - b * 64) (drop (b * 64) xs) (omega arith))

-- of the numbers of the values from a multiple of 16 on
pub block_of_drop : (xs : List ℕ) (first j : ℕ) → block 16 (drop (first * 16) xs) j ≡ block 16 xs (first + j)
block_of_drop xs first j =
    let start : first * 16 + j * 16 ≡ (first + j) * 16 = omega arith in
    let one : j * 16 + 16 - j * 16 ≡ 16 = omega arith in
    let other : (first + j) * 16 + 16 - (first + j) * 16 ≡ 16 = omega arith in
    rw (one, other, drop-drop (j * 16) (first * 16) xs, start) refl

-- the cells of a layout are few by how many different blocks there are on either side of the limit
pub layout_count : {T : Type 0} (number : T → ℕ) (values : List T) (trie_type : TrieType) (wide_end count : ℕ) → length values ≡ 0x11_0000 → wide_end ≤ 0x880
    → AreFew (map number values) trie_type wide_end count
    → count ≤ 64 * different_blocks number 64 (take (fast_limit trie_type) values) + 16 * different_blocks number 16 (drop (fast_limit trie_type) values) + 128
unfolding different_blocks
layout_count number values trie_type wide_end count all to (fast, small, (fast_kept, fast_are, fast_few, fast_most), (small_kept, small_are, small_few, small_most), most) =
    let x = type_facts trie_type in
    let limit : ℕ = fast_limit trie_type in
    let xs : List ℕ = map number values in
    let count : length xs ≡ 0x11_0000 = length-map values number ∙ all in
    let before : map number (take limit values) ≡ take limit xs = sym (take-map number limit values) in
    let behind : map number (drop limit values) ≡ drop limit xs = sym (drop-map number limit values) in
    let whole : limit / 16 * 16 ≡ limit = omega (arith, x.1, x.2) in
    let taken : length (take limit xs) ≡ limit = length-take-le limit xs (omega (arith, x.1, x.2)) in
    let dropped : length (drop limit xs) ≡ 0x11_0000 - limit = length-drop limit xs ∙ ap (λ n. n - limit) count in
    let fast_count : length fast_kept ≤ distinct_count Same (blocks 64 (take limit xs)) =
    kept_count 64 2 (limit / 64) xs (take limit xs) fast_kept fast_are
    (λ b from inside. (b, omega (arith, x.1, x.2), block_of_take xs limit b (omega (arith, x.1, x.2)))) in
    let small_count : length small_kept ≤ distinct_count Same (blocks 16 (drop limit xs)) =
    kept_count 16 (limit / 16) (32 * wide_end) xs (drop limit xs) small_kept small_are
    (λ b from inside.
    let j : ℕ = b - limit / 16 in
    let same : limit / 16 + j ≡ b = omega arith in
    (j, omega (arith, x.1, x.2), subst (λ n. block 16 (drop n xs) j ≡ block 16 xs b) whole (subst (λ n. block 16 (drop (limit / 16 * 16) xs) j ≡ block 16 xs n) same (block_of_drop xs (limit / 16) j)))) in
    rw (before, behind) (omega (arith, fast_count, small_count, fast_most, small_most, most))

-- more kept blocks than the limit are more different ones
pub more_different : {T : Type 0} (number : T → ℕ) (width first end limit : ℕ) (values : List T) → ((b : ℕ) → b < end → b < length values / width)
    → HasMore width (map number values) first end limit → limit < different_blocks number width values
unfolding different_blocks
more_different number width first end limit values all (kept, are, more) =
    let count : length kept ≤ distinct_count Same (blocks width (map number values)) =
    kept_count width first end (map number values) (map number values) kept are (λ b from inside. (b, rw (length-map values number) (all b inside), refl)) in
    omega arith

-- where each block is one of these
pub different_blocks-few : {T : Type 0} (number : T → ℕ) (width n : ℕ) (values : List T) (some : ℕ → List ℕ)
    → ((j : ℕ) → j < length (map number values) / width → (k : ℕ) × (k < n) × (some k ≡ block width (map number values) j)) → different_blocks number width values ≤ n
unfolding different_blocks
different_blocks-few number width n values some each =
    let ys : List (List ℕ) = map some (range_with_len 0 n) in
    let most = count_below (blocks width (map number values)) ys
    (λ q in'.
    let j = among_blocks width (map number values) q in' in
    let k = each j.0 j.1 in
    (k.0, omega (arith, k.1, length-map-range_with_len some 0 n), get_or-map-range_with_len some 0 n k.0 k.0 q k.1 (omega arith) ∙ k.2 ∙ j.2)) in
    omega (arith, distinct_count-le Same ys, length-map-range_with_len some 0 n)
