-- What stands beside a character, as keys of a context, and contexts that have just these keys.
use Rattle.std.specs.Prelude.{◌≡◌, ℕ, ℤ, ◌+◌, ◌%◌, ◌^◌, ◌<◌, ◌≤◌, Bool, cond, List, flat_map, length, reverse, Some, None}
use Rattle.std.specs.Int.{cast_signed, cast_unsigned, w32}
use Rattle.std.specs.List.{AllZip, Contains, count_by}
use Rattle.std.specs.Str.{bytes_eq}
use Rattle.icu_char16trie.specs.Cursors.{units_of}
use Rattle.icu_char16trie.specs.UnitGrammar.{IsUnitTrie}
use Rattle.icu_char16trie.specs.UnitMaps.{MapsKey, at_node}
use Rattle.icu_collator_core.specs.ContextRules.{has_flag}
use Rattle.icu_collator_core.specs.Pools.{Pools, default_word, index_of, trie_of}
use Rattle.collate_words.specs.declared.contexts.ContextKey.{ContextKey}
use Rattle.collate_words.specs.OwnWords.{IsOwnWord}
use Rattle.collate_words.specs.Sayings.{SaidBeside}

-- the units of a key, and its word
abbrev pub pair_of : ContextKey → List ℕ × ℕ
pair_of key = (key.units.items, key.word)

-- a key that fits a context: one unit to 14, and a word of 32 bits
pub record FitsContext (key : ContextKey) : Type 0 where
  pub some : 0 < length key.units.items
  pub short : length key.units.items ≤ 14
  pub word : key.word < 2 ^ 32

-- no two keys have the same units
abbrev pub AreKeysOnce : List ContextKey → Type 0
AreKeysOnce keys = (units : List ℕ) → count_by (λ key. bytes_eq key.units.items units) keys ≤ 1

-- the keys of a unit trie, which has some, are these, and their values are these words
pub record HasKeys (units : List ℕ) (keys : List (List ℕ × ℕ)) : Type 0 where
  pub some : 0 < length units
  pub grammar : IsUnitTrie units
  pub read : (key : List ℕ) (number : ℤ) → MapsKey units (at_node 0) key number
      → Contains keys (key, cast_unsigned w32 number)
  pub spelled : (key : List ℕ) (word : ℕ) → Contains keys (key, word)
      → MapsKey units (at_node 0) key (cast_signed w32 word)

-- characters in the order of keys: the nearest first, where they stand before the character
abbrev pub key_text : Bool → List ℕ → List ℕ
key_text backward cs = cond backward (reverse cs) cs

-- the key of what stands beside a character, and a word that says its elements
pub record IsKeyOf (pools : Pools) (backward : Bool) (said : SaidBeside) (key : List ℕ × ℕ) : Type 0 where
  pub units : key.0 ≡ flat_map units_of (key_text backward said.characters)
  pub word : IsOwnWord pools key.1 (Some said.elements) None

abbrev pub AreKeysOf : Pools → Bool → List SaidBeside → List (List ℕ × ℕ) → Type 0
AreKeysOf pools backward saids keys = AllZip (IsKeyOf pools backward) saids keys

-- at an index of contexts stand a default word and a unit trie with just these keys and their words
pub record IsContext (contexts : List ℕ) (index own : ℕ) (keys : List (List ℕ × ℕ)) : Type 0 where
  pub inside : index + 2 < length contexts
  pub default_is : default_word contexts index ≡ own
  pub trie : HasKeys (trie_of contexts index) keys

-- the index, the low byte and the flags of a word
pub record HasFields (word index low : ℕ) (all_begin one_ends one_holds : Bool) : Type 0 where
  pub index_is : index_of word ≡ index
  pub low_is : word % 2 ^ 8 ≡ low
  pub first : has_flag 9 word ≡ all_begin
  pub second : has_flag 10 word ≡ one_ends
  pub third : has_flag 11 word ≡ one_holds
