-- A trie as a TOML table: the fields of its header, its index cells and its data cells, each value as
-- its number. Other keys say nothing.
use Rattle.std.specs.Prelude.{◌≡◌, ℕ, ◌^◌, pos, nat_lt, nat_eq, codes, List, [], ◌∷◌, Option, Some, None, option_map, option_and_then, IsSomeAnd, if◌then◌else◌}
use Rattle.std.specs.Cmp.Lexicographic.{pointwise, slice_cmp}
use Rattle.std.specs.Ordering.{nat_cmp, match_ordering}
use Rattle.toml.specs.Data.{Data, string, integer, array, Items, no_items, item, Members, no_members, member, get_member, as_str, as_array}
use Rattle.toml.specs.Parse.{parse_document}
use Rattle.icu_codepointtrie.specs.TrieValues.{fitting}
use Rattle.icu_codepointtrie.specs.Slots.{TrieTables, IsRefused}
use Rattle.icu_codepointtrie.specs.declared.trie.TrieType.{TrieType}
use Rattle.icu_codepointtrie.specs.declared.trie.TrieType.TheVariants.{Fast, Small}
use Rattle.icu_codepointtrie.specs.declared.trie.CodePointTrieHeader.{CodePointTrieHeader}
use Rattle.icu_codepointtrie.specs.declared.toml_text.CodePointTrieTomlError.{CodePointTrieTomlError}
use Rattle.icu_codepointtrie.specs.declared.toml_text.CodePointTrieTomlError.TheVariants.{FromDeserialized, Trie, Memory}

-- the value whose number an integer is
abbrev pub value_in : {T : Type 0} → (ℕ → Option T) → Data → Option T
value_in of_number (integer (pos n)) = if nat_lt n (2 ^ 32) then of_number n else None
value_in of_number _ = None

-- the values whose numbers integers are
abbrev pub values_in : {T : Type 0} → (ℕ → Option T) → Items → Option (List T)
values_in of_number no_items = Some []
values_in of_number (item d ds) = option_and_then (λ v. option_map (λ vs. v ∷ vs) (values_in of_number ds)) (value_in of_number d)

-- the value at a key, and the values of an array there
abbrev pub value_at_key : {T : Type 0} → (ℕ → Option T) → List ℕ → Members → Option T
value_at_key of_number key table = option_and_then (value_in of_number) (get_member key table)

abbrev pub values_at_key : {T : Type 0} → (ℕ → Option T) → List ℕ → Members → Option (List T)
values_at_key of_number key table = option_and_then (λ d. option_and_then (values_in of_number) (as_array d)) (get_member key table)

-- the name of a trie's type
abbrev pub name_of : TrieType → List ℕ
name_of Fast = codes "Fast"
name_of Small = codes "Small"

-- the type with this name
abbrev pub trie_type_named : List ℕ → Option TrieType
trie_type_named name = if pointwise nat_eq name (name_of Fast) then Some Fast else if pointwise nat_eq name (name_of Small) then Some Small else None

abbrev pub trie_type_in : Members → Option TrieType
trie_type_in table = option_and_then (λ d. option_and_then trie_type_named (as_str d)) (get_member (codes "trie_type") table)

-- numbers of 32 bits, and of 16
abbrev pub number_at_key : List ℕ → Members → Option ℕ
number_at_key = value_at_key Some

abbrev pub short_at_key : List ℕ → Members → Option ℕ
short_at_key = value_at_key (fitting (λ n. nat_lt n 0x1_0000))

-- the header that a table has, with each of its fields
abbrev pub header_in : Members → Option CodePointTrieHeader
header_in table =
    option_and_then (λ high_start.
    option_and_then (λ shifted12_high_start.
    option_and_then (λ index3_null_offset.
    option_and_then (λ data_null_offset.
    option_and_then (λ null_value.
    option_and_then (λ trie_type.
    Some (record {
      high_start = high_start;
      shifted12_high_start = shifted12_high_start;
      index3_null_offset = index3_null_offset;
      data_null_offset = data_null_offset;
      null_value = null_value;
      trie_type = trie_type;
    }))
    (trie_type_in table))
    (number_at_key (codes "null_value") table))
    (number_at_key (codes "data_null_offset") table))
    (short_at_key (codes "index3_null_offset") table))
    (short_at_key (codes "shifted12_high_start") table))
    (number_at_key (codes "high_start") table)

-- the tables that a TOML table has, where it has each with values of its type
abbrev pub tables_in : {T : Type 0} → (ℕ → Option T) → Members → Option (TrieTables T)
tables_in of_number table =
    option_and_then (λ header.
    option_and_then (λ index.
    option_and_then (λ cells.
    Some (record { header = header; index = index; cells = cells }))
    (values_at_key of_number (codes "data") table))
    (values_at_key (fitting (λ n. nat_lt n 0x1_0000)) (codes "index") table))
    (header_in table)

-- the tables that a text has, where it is TOML
abbrev pub tables_of_text : {T : Type 0} → (ℕ → Option T) → List ℕ → Option (TrieTables T)
tables_of_text of_number text = option_and_then (tables_in of_number) (parse_document text)

-- why what was read is no trie: nothing was, or it has a fault of tables
abbrev pub IsTomlRefused : {T : Type 0} → Option (TrieTables T) → CodePointTrieTomlError → Type 0
IsTomlRefused tables FromDeserialized = tables ≡ None
IsTomlRefused tables (Trie fault) = IsSomeAnd tables (λ t. IsRefused t fault)
IsTomlRefused tables Memory = Unit {0}

-- the numbers of values as integers
abbrev pub integers_of : {T : Type 0} → (T → ℕ) → List T → Items
integers_of number [] = no_items
integers_of number (v ∷ vs) = item (integer (pos (number v))) (integers_of number vs)

-- the table of a trie, by rising keys
abbrev pub table_of : {T : Type 0} → (T → ℕ) → TrieTables T → Members
table_of number t =
    member (codes "data") (array (integers_of number t.cells)) (
    member (codes "data_null_offset") (integer (pos t.header.data_null_offset)) (
    member (codes "high_start") (integer (pos t.header.high_start)) (
    member (codes "index") (array (integers_of (λ n. n) t.index)) (
    member (codes "index3_null_offset") (integer (pos t.header.index3_null_offset)) (
    member (codes "null_value") (integer (pos t.header.null_value)) (
    member (codes "shifted12_high_start") (integer (pos t.header.shifted12_high_start)) (
    member (codes "trie_type") (string (name_of t.header.trie_type)) no_members)))))))

-- the members with this value at the key, and their other values as before
abbrev pub with_member : List ℕ → Data → Members → Members
with_member k d no_members = member k d no_members
with_member k d (member l e ms) = match_ordering (slice_cmp nat_cmp k l) (member k d (member l e ms)) (member l d ms) (member l e (with_member k d ms))
