-- A trie with the tables of a layout reads the values that the layout is made of.
use Rattle.std.proofs.Common.{◌≡◌, ℕ, ◌+◌, ◌-◌, ◌*◌, ◌/◌, ◌%◌, ◌^◌, ◌<◌, ◌≤◌, true, false, List, [], ◌∷◌, ◌++◌, length, map, get_or, refl, sym, ap, ◌∙◌, arith, nat_lt, length-append, ⊎_elim}
use Rattle.std.specs.Prelude.{Some, slice_get, slice_index}
use Rattle.std.proofs.lemmas.Bool.{lt-ltb, le-ltb, cases_lt}
use Rattle.std.proofs.lemmas.List.{get_or-map, length-map, get_or_append_left, get_or-append_right}
use Rattle.std.proofs.lemmas.Option.{slice_get-get_or}
use Rattle.icu_codepointtrie.specs.declared.trie.TrieType.{TrieType}
use Rattle.icu_codepointtrie.specs.declared.trie.TrieType.TheVariants.{Fast, Small}
use Rattle.icu_codepointtrie.specs.declared.builder.layout.Layout.{Layout}
use Rattle.icu_codepointtrie.specs.Slots.{fast_limit, fast_blocks, first_step, fast_slot, small_slot, named_slot, TrieTables, value_at, has_cell, IsTrie}
use Rattle.icu_codepointtrie.specs.CodePointMaps.{CodePointMap, mapped}
use Rattle.icu_codepointtrie.specs.BuiltTries.{IsTrieOf, AreAllCells}
use Rattle.icu_codepointtrie.specs.Layouts.{AreBounded, IsLayout, second_start, third_start, fast_start, index_cell, HasCells, HasIndex}

-- the two types by one number
pub type_facts : (t : TrieType) → (x : ℕ) × (x ≤ 1) × (fast_limit t ≡ 61440 * x + 4096) × (first_step t ≡ 956 * x + 64)
type_facts Fast = (1, omega arith, refl, refl)
type_facts Small = (0, omega arith, refl, refl)

-- below the fast limit
fast_cell : (l : Layout) (b : ℕ) → b < fast_blocks l.trie_type → index_cell l b ≡ fast_start l b
unfolding index_cell
fast_cell l b inside = rw (lt-ltb b (fast_blocks l.trie_type) inside) refl

-- the first of three steps
first_cell : (l : Layout) (c : ℕ) → fast_limit l.trie_type ≤ c → c < l.wide_end * 512
    → index_cell l (c / 2 ^ 14 + first_step l.trie_type) ≡ second_start l.trie_type l.wide_end - fast_limit l.trie_type / 512 + 32 * (c / 2 ^ 14)
unfolding index_cell
first_cell l c from before =
    let x = type_facts l.trie_type in
    rw (le-ltb (c / 2 ^ 14 + first_step l.trie_type) (fast_blocks l.trie_type) (omega (arith, x.1, x.2, x.3)), lt-ltb (c / 2 ^ 14 + first_step l.trie_type) (second_start l.trie_type l.wide_end) (omega (arith, x.1, x.2, x.3))) (omega arith)

-- the second, by the number of the block of 512
second_cell : (l : Layout) (slot j : ℕ) → AreBounded l → slot ≡ second_start l.trie_type l.wide_end + j → index_cell l slot ≡ slice_index l.seconds.items j
unfolding index_cell
second_cell l slot j bounds is =
    let x = type_facts l.trie_type in
    let from : fast_limit l.trie_type / 512 ≤ l.wide_end = bounds.from in
    let back : slot - second_start l.trie_type l.wide_end ≡ j = omega arith in
    rw (le-ltb slot (fast_blocks l.trie_type) (omega (arith, x.1, x.2, x.3)), le-ltb slot (second_start l.trie_type l.wide_end) (omega arith), back) refl

-- what is read of the index before the third blocks
read : (l : Layout) (head rest : List ℕ) (slot value : ℕ) → HasCells l head → slot < third_start l.trie_type l.wide_end → index_cell l slot ≡ value → slice_get (head ++ rest) slot ≡ Some value
read l head rest slot value has inside is =
    let count : length head ≡ third_start l.trie_type l.wide_end = has.count in
    slice_get-get_or (head ++ rest) slot 0 (omega (arith, length-append head rest)) ∙ ap Some (get_or_append_left head rest 0 slot (omega arith) ∙ has.cells slot inside ∙ is)

-- from the fast limit up to the last run
small_value : (values cells : List ℕ) (l : Layout) (head : List ℕ) (c : ℕ) → IsLayout values cells l → AreBounded l → HasCells l head → fast_limit l.trie_type ≤ c → c < l.wide_end * 512
    → (slot : ℕ) × (small_slot l.trie_type (head ++ l.thirds.items) c ≡ Some slot) × (slot < length cells) × (slice_index cells slot ≡ slice_index values c)
small_value values cells l head c layout bounds has from before =
    let x = type_facts l.trie_type in
    let low : fast_limit l.trie_type / 512 ≤ l.wide_end = bounds.from in
    let high : l.wide_end ≤ 0x880 = bounds.to in
    let i : ℕ = c / 2 ^ 4 % 32 in
    let first_value : ℕ = second_start l.trie_type l.wide_end - fast_limit l.trie_type / 512 + 32 * (c / 2 ^ 14) in
    let first : slice_get (head ++ l.thirds.items) (c / 2 ^ 14 + first_step l.trie_type) ≡ Some first_value =
    read l head l.thirds.items _ _ has (omega (arith, x.1, x.2, x.3)) (first_cell l c from before) in
    let slot : first_value + c / 2 ^ 9 % 32 ≡ second_start l.trie_type l.wide_end + (c / 512 - fast_limit l.trie_type / 512) = omega (arith, x.1, x.2, x.3) in
    let second : slice_get (head ++ l.thirds.items) (first_value + c / 2 ^ 9 % 32) ≡ Some (slice_index l.seconds.items (c / 512 - fast_limit l.trie_type / 512)) =
    read l head l.thirds.items _ _ has (omega (arith, x.1, x.2, x.3)) (second_cell l _ (c / 512 - fast_limit l.trie_type / 512) bounds slot) in
    let found = layout.small (c / 512) i head (omega (arith, x.1, x.2)) (omega arith) (omega arith) has.count in
    let whole : c / 512 * 512 + i * 16 + c % 16 ≡ c = omega arith in
    let inside = found.2.inside in
    (found.0 + c % 16, rw (first, second, found.1) refl, omega arith, found.2.same (c % 16) (omega arith) ∙ ap (λ k. slice_index values k) whole)

-- below the fast limit
fast_value : (values cells : List ℕ) (l : Layout) (head : List ℕ) (c : ℕ) → IsLayout values cells l → AreBounded l → HasCells l head → c < fast_limit l.trie_type
    → (slot : ℕ) × (fast_slot (head ++ l.thirds.items) c ≡ Some slot) × (slot < length cells) × (slice_index cells slot ≡ slice_index values c)
fast_value values cells l head c layout bounds has before =
    let x = type_facts l.trie_type in
    let low : fast_limit l.trie_type / 512 ≤ l.wide_end = bounds.from in
    let cell : slice_get (head ++ l.thirds.items) (c / 64) ≡ Some (fast_start l (c / 64)) =
    read l head l.thirds.items (c / 64) (fast_start l (c / 64)) has (omega (arith, x.1, x.2, x.3)) (fast_cell l (c / 64) (omega (arith, x.1, x.2))) in
    let stands = layout.fast (c / 64) (omega (arith, x.1, x.2)) in
    let whole : c / 64 * 64 + c % 64 ≡ c = omega arith in
    let inside = stands.inside in
    (fast_start l (c / 64) + c % 64, rw cell refl, omega arith, stands.same (c % 64) (omega arith) ∙ ap (λ k. slice_index values k) whole)

-- what is at the slot that header and index name
at_slot : {T : Type 0} (t : TrieTables T) (c slot : ℕ) → named_slot t.header t.index (length t.cells) c ≡ Some slot → slot < length t.cells
    → (has_cell t c ≡ true) × (value_at t c ≡ slice_get t.cells slot)
at_slot t c slot named inside = (rw (named, lt-ltb slot (length t.cells) inside) refl, rw (named, lt-ltb slot (length t.cells) inside) refl)

-- a cell whose number is that of the code point's value has the value
same_value : {T : Type 0} (number : T → ℕ) → ((x y : T) → number x ≡ number y → x ≡ y) → (m : CodePointMap T) (stored rest : List T) (c slot : ℕ) → length m.values ≡ 0x11_0000
    → c < 0x11_0000 → slot < length (map number stored) → slice_index (map number stored) slot ≡ slice_index (map number m.values) c → slice_get (stored ++ rest) slot ≡ Some (mapped m c)
same_value {T} number tells m stored rest c slot all within inside same =
    let low : slot < length stored = omega (arith, length-map stored number) in
    let numbers : number (get_or stored slot m.default) ≡ number (get_or m.values c m.default) =
    sym (get_or-map number stored slot m.default 0 low) ∙ same ∙ get_or-map number m.values c m.default 0 (omega arith) in
    slice_get-get_or (stored ++ rest) slot m.default (omega (arith, length-append stored rest))
    ∙ ap (λ (v : T). Some v) (get_or_append_left stored rest m.default slot low ∙ tells (get_or stored slot m.default) (get_or m.values c m.default) numbers)

-- the last but one
last_value : {T : Type 0} (number : T → ℕ) → ((x y : T) → number x ≡ number y → x ≡ y) → (m : CodePointMap T) (stored : List T) (last : T) (c : ℕ) → length m.values ≡ 0x11_0000
    → c < 0x11_0000 → number last ≡ slice_index (map number m.values) 0x10_FFFF → slice_index (map number m.values) c ≡ slice_index (map number m.values) 0x10_FFFF
    → slice_get (stored ++ last ∷ m.error ∷ []) (length stored) ≡ Some (mapped m c)
last_value {T} number tells m stored last c all within is same =
    let zero : length stored - length stored ≡ 0 = omega arith in
    let numbers : number last ≡ number (get_or m.values c m.default) = is ∙ sym same ∙ get_or-map number m.values c m.default 0 (omega arith) in
    slice_get-get_or (stored ++ last ∷ m.error ∷ []) (length stored) m.default (omega (arith, length-append stored (last ∷ m.error ∷ [])))
    ∙ ap (λ (v : T). Some v) (get_or-append_right stored (last ∷ m.error ∷ []) (length stored) (length stored) m.default refl (omega arith) ∙ rw zero (tells last (get_or m.values c m.default) numbers))

-- the last
error_value : {T : Type 0} (stored : List T) (last error : T) → slice_get (stored ++ last ∷ error ∷ []) (length stored + 1) ≡ Some error
error_value {T} stored last error =
    let one : length stored + 1 - length stored ≡ 1 = omega arith in
    slice_get-get_or (stored ++ last ∷ error ∷ []) (length stored + 1) error (omega (arith, length-append stored (last ∷ error ∷ [])))
    ∙ ap (λ (v : T). Some v) (get_or-append_right stored (last ∷ error ∷ []) (length stored) (length stored + 1) error refl (omega arith) ∙ rw one refl)

-- the trie of the tables of a layout reads the map whose values the layout is of
pub IsTrieOf-built : {T : Type 0} (number : T → ℕ) → ((x y : T) → number x ≡ number y → x ≡ y) → (m : CodePointMap T) (l : Layout) (t : TrieTables T) (stored : List T)
    → length m.values ≡ 0x11_0000 → t.header.trie_type ≡ m.trie_type → l.trie_type ≡ m.trie_type → t.header.high_start ≡ l.wide_end * 512
    → IsLayout (map number m.values) (map number stored) l → AreBounded l → HasIndex l t.index → AreAllCells number (map number m.values) stored m.error t.cells → IsTrieOf m t
IsTrieOf-built {T} number tells m l t stored all header_type layout_type high layout bounds (head, has, index) (last, last_is, cells) =
    record {
      trie_type = header_type;
      cells = λ c. ⊎_elim (λ low. (inside c (omega arith)).0) (λ above. (outside c above).0) (cases_lt c 0x11_0000);
      within = λ c h. (inside c (omega arith)).1;
      past = λ c h. (outside c (omega arith)).1;
    } where
      rest : List T
      rest = last ∷ m.error ∷ []

      count : length t.cells ≡ length stored + 2
      count = ap (λ (xs : List T). length xs) cells ∙ length-append stored rest

      at : (c slot : ℕ) (value : T) → named_slot t.header t.index (length t.cells) c ≡ Some slot → slot < length t.cells → slice_get (stored ++ rest) slot ≡ Some value
          → (has_cell t c ≡ true) × (value_at t c ≡ Some value)
      at c slot value named low is = let found = at_slot t c slot named low in (found.0, found.1 ∙ ap (λ (xs : List T). slice_get xs slot) cells ∙ is)

      outside : (c : ℕ) → 0x11_0000 ≤ c → (has_cell t c ≡ true) × (value_at t c ≡ Some m.error)
      outside c above =
          let end : length t.cells - 1 ≡ length stored + 1 = omega (arith, count) in
          let named : named_slot t.header t.index (length t.cells) c ≡ Some (length stored + 1) = rw (lt-ltb 0x10_FFFF c (omega arith), end) refl in
          at c (length stored + 1) m.error named (omega (arith, count)) (error_value stored last m.error)

      inside : (c : ℕ) → c < 0x11_0000 → (has_cell t c ≡ true) × (value_at t c ≡ Some (mapped m c))
      inside c within =
          let low : fast_limit l.trie_type / 512 ≤ l.wide_end = bounds.from in
          let same_type : t.header.trie_type ≡ l.trie_type = header_type ∙ sym layout_type in
          let point : nat_lt 0x10_FFFF c ≡ false = le-ltb 0x10_FFFF c (omega arith) in
          let stored_count = length-map stored number in
          ⊎_elim
          (λ below.
          let v = fast_value (map number m.values) (map number stored) l head c layout bounds has below in
          let named : named_slot t.header t.index (length t.cells) c ≡ Some v.0 = rw (point, same_type, lt-ltb c (fast_limit l.trie_type) below, index) v.1 in
          at c v.0 (mapped m c) named (omega (arith, v.2, count, stored_count)) (same_value number tells m stored rest c v.0 all within v.2 v.3))
          (λ above. ⊎_elim
          (λ below.
          let v = small_value (map number m.values) (map number stored) l head c layout bounds has above below in
          let named : named_slot t.header t.index (length t.cells) c ≡ Some v.0 = rw (point, same_type, le-ltb c (fast_limit l.trie_type) above, high, lt-ltb c (l.wide_end * 512) below, index) v.1 in
          at c v.0 (mapped m c) named (omega (arith, v.2, count, stored_count)) (same_value number tells m stored rest c v.0 all within v.2 v.3))
          (λ past.
          let two : nat_lt (length t.cells) 2 ≡ false = le-ltb (length t.cells) 2 (omega (arith, count)) in
          let end : length t.cells - 2 ≡ length stored = omega (arith, count) in
          let named : named_slot t.header t.index (length t.cells) c ≡ Some (length stored) = rw (point, same_type, le-ltb c (fast_limit l.trie_type) above, high, le-ltb c (l.wide_end * 512) past, two, end) refl in
          at c (length stored) (mapped m c) named (omega (arith, count)) (last_value number tells m stored last c all within last_is (layout.run c past within)))
          (cases_lt c (l.wide_end * 512)))
          (cases_lt c (fast_limit l.trie_type))

-- those tables are a trie's
pub IsTrie-built : {T : Type 0} (number : T → ℕ) (values : List ℕ) (l : Layout) (error : T) (t : TrieTables T) (stored : List T) → t.header.trie_type ≡ l.trie_type
    → IsLayout values (map number stored) l → AreBounded l → HasIndex l t.index → AreAllCells number values stored error t.cells → IsTrie t
IsTrie-built {T} number values l error t stored same_type layout bounds (head, has, index) (last, last_is, cells) =
    let x = type_facts l.trie_type in
    let count : length t.cells ≡ length stored + 2 = ap (λ (xs : List T). length xs) cells ∙ length-append stored (last ∷ error ∷ []) in
    let low : fast_limit l.trie_type / 512 ≤ l.wide_end = bounds.from in
    let head_count : length head ≡ third_start l.trie_type l.wide_end = has.count in
    let index_count : length t.index ≡ length head + length l.thirds.items = ap (λ (xs : List ℕ). length xs) index ∙ length-append head l.thirds.items in
    record {
      some_cell = omega arith;
      fast_index = rw same_type (omega (arith, x.1, x.2, x.3));
      fast_cells = rw same_type (λ i h.
          let stands = layout.fast i h in
          let inside = stands.inside in
          let cell : slice_index t.index i ≡ fast_start l i =
          ap (λ (xs : List ℕ). get_or xs i 0) index ∙ get_or_append_left head l.thirds.items 0 i (omega (arith, x.1, x.2, x.3)) ∙ has.cells i (omega (arith, x.1, x.2, x.3)) ∙ fast_cell l i h in
          omega (arith, length-map stored number));
    }
