-- Values and the integers that stand for them, one value at a time.
use Rattle.std.proofs.Common.{◌≡◌, ℕ, zero, suc, ◌+◌, ◌^◌, ◌<◌, ◌≤◌, String, Global, Ordering, Less, Equal, Greater, string_bytes, nat_lt, pos, List, [], ◌∷◌, ◌++◌, length, get_or, take, true, Option, Some, None, option_map, option_and_then, refl, ap, ◌∙◌, arith}
use Rattle.std.proofs.lemmas.Bool.{lt-ltb}
use Rattle.std.proofs.lemmas.List.{take_more}
use Rattle.std.proofs.lemmas.Option.{slice_get_within, get_or_from_slice_get}
use Rattle.std.specs.List.{slice_get}
use Rattle.std.specs.BTreeMap.{insert_entry}
use Rattle.std.specs.Ordering.{match_ordering}
use Rattle.std.specs.String.{string_cmp}
use Rattle.toml.specs.Data.{Data, Items, no_items, item, integer, push_item, items_depth, members_depth, items_have_valid_dates, members_have_valid_dates}
use Rattle.toml.specs.View.{view, items_view, members_view}
use Rattle.toml.specs.declared.value.Value.{Value}
use Rattle.toml.proofs.Views.{items_view-push}
use Rattle.icu_codepointtrie.specs.TrieValues.{fitting}
use Rattle.icu_codepointtrie.specs.Slots.{TrieTables}
use Rattle.icu_codepointtrie.specs.declared.trie.TrieType.{TrieType}
use Rattle.icu_codepointtrie.specs.declared.trie.TrieType.TheVariants.{Fast, Small}
use Rattle.icu_codepointtrie.specs.declared.trie.CodePointTrieHeader.{CodePointTrieHeader}
use Rattle.icu_codepointtrie.specs.TomlTables.{value_in, values_in, integers_of, with_member, table_of, trie_type_named, name_of, header_in, tables_in}

-- a list whose first item or whose other items have no values has none
abbrev pub joined : {T : Type 0} → Option T → Option (List T) → Option (List T)
joined o r = option_and_then (λ v. option_map (λ vs. v ∷ vs) r) o

joined_more : {T : Type 0} (o : Option T) (r more : Option (List T)) (vs : List T) (v : T) → joined o r ≡ Some vs → ((ws : List T) → r ≡ Some ws → more ≡ Some (ws ++ v ∷ [])) → joined o more ≡ Some (vs ++ v ∷ [])
joined_more None r more vs v h k = cc h
joined_more (Some w) None more vs v h k = cc h
joined_more (Some w) (Some ws) more vs v h k =
    let e : more ≡ Some (ws ++ v ∷ []) = k ws refl in
    let same : w ∷ ws ≡ vs = cc h in
    rw (e, ← same)

joined_none : {T : Type 0} (o : Option T) → joined o None ≡ None
joined_none None = refl
joined_none (Some v) = refl

pub values_in-push : {T : Type 0} (of_number : ℕ → Option T) (ds : Items) (d : Data) (vs : List T) (v : T) → values_in of_number ds ≡ Some vs → value_in of_number d ≡ Some v → values_in of_number (push_item ds d) ≡ Some (vs ++ v ∷ [])
values_in-push of_number no_items d vs v h last =
    let same : [] ≡ vs = cc h in
    rw (last, ← same)
values_in-push of_number (item e ds) d vs v h last =
    joined_more (value_in of_number e) (values_in of_number ds) _ vs v h (λ ws rest. values_in-push of_number ds d ws v rest last)

pub values_in-none : {T : Type 0} (of_number : ℕ → Option T) (values : List Value) (i : ℕ) (d : Value) → i < length values → value_in of_number (view (get_or values i d)) ≡ None → values_in of_number (items_view values) ≡ None
values_in-none of_number [] i d h none = absurd (omega arith)
values_in-none of_number (x ∷ values) zero d h none = rw none
values_in-none of_number (x ∷ values) (suc i) d h none =
    let rest = values_in-none of_number values i d (omega arith) none in
    rw rest (joined_none (value_in of_number (view x)))

pub values_in-more : {T : Type 0} (of_number : ℕ → Option T) (values : List Value) (i : ℕ) (d : Value) (vs : List T) (v : T) → i < length values → values_in of_number (items_view (take i values)) ≡ Some vs
    → value_in of_number (view (get_or values i d)) ≡ Some v → values_in of_number (items_view (take (i + 1) values)) ≡ Some (vs ++ v ∷ [])
values_in-more of_number values i d vs v h before here =
    rw (take_more values i d h, items_view-push (take i values) (get_or values i d)) (values_in-push of_number (items_view (take i values)) (view (get_or values i d)) vs v before here)

pub integers_of-push : {T : Type 0} (number : T → ℕ) (vs : List T) (v : T) → integers_of number (vs ++ v ∷ []) ≡ push_item (integers_of number vs) (integer (pos (number v)))
integers_of-push number [] v = refl
integers_of-push number (x ∷ vs) v = ap (item (integer (pos (number x)))) (integers_of-push number vs v)

-- the list up to a slot, and the item there
take_found : {A : Type 0} (xs : List A) (i : ℕ) (x : A) → slice_get xs i ≡ Some x → take (i + 1) xs ≡ take i xs ++ x ∷ []
take_found xs i x h = take_more xs i x (slice_get_within xs i x h) ∙ rw (get_or_from_slice_get xs i x x h)

pub integers_of-more : {T : Type 0} (number : T → ℕ) (vs : List T) (i : ℕ) (v : T) (items : List Value) (value : Value) → slice_get vs i ≡ Some v → view value ≡ integer (pos (number v))
    → items_view items ≡ integers_of number (take i vs) → items_view (items ++ value ∷ []) ≡ integers_of number (take (i + 1) vs)
integers_of-more number vs i v items value here seen before =
    rw (take_found vs i v here, integers_of-push number (take i vs) v, items_view-push items value, seen, before)

pub values_in-found : {T : Type 0} (of_number : ℕ → Option T) (vs : List T) (i : ℕ) (v : T) (items : List Value) (value : Value) → slice_get vs i ≡ Some v → value_in of_number (view value) ≡ Some v
    → values_in of_number (items_view items) ≡ Some (take i vs) → values_in of_number (items_view (items ++ value ∷ [])) ≡ Some (take (i + 1) vs)
values_in-found of_number vs i v items value here seen before =
    rw (take_found vs i v here, items_view-push items value) (values_in-push of_number (items_view items) (view value) (take i vs) v before seen)

-- the integer of a number of 32 bits means the value of that number
pub value_in-number : {T : Type 0} (of_number : ℕ → Option T) (d : Data) (n : ℕ) (v : T) → d ≡ integer (pos n) → n < 2 ^ 32 → of_number n ≡ Some v → value_in of_number d ≡ Some v
value_in-number of_number d n v same small found =
    let within : nat_lt n (2 ^ 32) ≡ true = lt-ltb n (2 ^ 32) small in
    rw (same, within) found

-- the members of a map after an insert
matched : (o : Ordering) (a b c : List (String Global × Value)) → members_view (match_ordering o a b c) ≡ match_ordering o (members_view a) (members_view b) (members_view c)
matched Less a b c = refl
matched Equal a b c = refl
matched Greater a b c = refl

pub members_view-insert : (es : List (String Global × Value)) (k : String Global) (v : Value) → members_view (insert_entry string_cmp es k v) ≡ with_member (string_bytes k) (view v) (members_view es)
members_view-insert [] k v = refl
members_view-insert (e ∷ es) k v = matched (string_cmp k e.0) _ _ _ ∙ rw (members_view-insert es k v)

-- integers nest nothing, and are no date-times
integers_depth : {T : Type 0} (number : T → ℕ) (vs : List T) → items_depth (integers_of number vs) ≡ 0
integers_depth number [] = refl
integers_depth number (v ∷ vs) = omega (arith, integers_depth number vs)

integers_dates : {T : Type 0} (number : T → ℕ) (vs : List T) → items_have_valid_dates (integers_of number vs) ≡ true
integers_dates number [] = refl
integers_dates number (v ∷ vs) = integers_dates number vs

pub table_depth : {T : Type 0} (number : T → ℕ) (t : TrieTables T) → members_depth (table_of number t) ≤ 80
table_depth number t = omega (arith, integers_depth number t.cells, integers_depth (λ n. n) t.index)

pub table_dates : {T : Type 0} (number : T → ℕ) (t : TrieTables T) → members_have_valid_dates (table_of number t) ≡ true
table_dates number t = rw (integers_dates number t.cells, integers_dates (λ n. n) t.index)

-- a trie's table has the trie
type_back : (trie_type : TrieType) → trie_type_named (name_of trie_type) ≡ Some trie_type
type_back Fast = refl
type_back Small = refl

-- the fields of the header fit their types
pub record IsHeader (header : CodePointTrieHeader) : Type 0 where
  pub high_start : header.high_start < 2 ^ 32
  pub shifted12_high_start : header.shifted12_high_start < 2 ^ 16
  pub index3_null_offset : header.index3_null_offset < 2 ^ 16
  pub data_null_offset : header.data_null_offset < 2 ^ 32
  pub null_value : header.null_value < 2 ^ 32

number_back : (n : ℕ) → n < 2 ^ 32 → value_in Some (integer (pos n)) ≡ Some n
number_back n small = value_in-number Some (integer (pos n)) n n refl small refl

short_back : (n : ℕ) → n < 2 ^ 16 → value_in (fitting (λ n. nat_lt n 0x1_0000)) (integer (pos n)) ≡ Some n
short_back n small =
    let within : nat_lt n 0x1_0000 ≡ true = lt-ltb n 0x1_0000 small in
    value_in-number (fitting (λ n. nat_lt n 0x1_0000)) (integer (pos n)) n n refl (omega arith) (rw within)

header_back : {T : Type 0} (number : T → ℕ) (t : TrieTables T) → IsHeader t.header → header_in (table_of number t) ≡ Some t.header
header_back number t fits =
    let high_start = number_back t.header.high_start fits.high_start in
    let shifted12_high_start = short_back t.header.shifted12_high_start fits.shifted12_high_start in
    let index3_null_offset = short_back t.header.index3_null_offset fits.index3_null_offset in
    let data_null_offset = number_back t.header.data_null_offset fits.data_null_offset in
    let null_value = number_back t.header.null_value fits.null_value in
    let trie_type = type_back t.header.trie_type in
    simp (high_start, shifted12_high_start, index3_null_offset, data_null_offset, null_value, trie_type)

pub tables_back : {T : Type 0} (number : T → ℕ) (of_number : ℕ → Option T) (t : TrieTables T) → IsHeader t.header → values_in (fitting (λ n. nat_lt n 0x1_0000)) (integers_of (λ n. n) t.index) ≡ Some t.index
    → values_in of_number (integers_of number t.cells) ≡ Some t.cells → tables_in of_number (table_of number t) ≡ Some t
tables_back number of_number t fits index cells =
    let header = header_back number t fits in
    simp (header, index, cells)
