-- The lists that words of collation tables name indices in, and what a word says by what stands there. What stands past the
-- end of a list is 0, or is left out; the check of tables asks that no word names such an index.
use Rattle.std.specs.Prelude.{ℕ, ◌+◌, ◌-◌, ◌*◌, ◌/◌, ◌%◌, ◌^◌, cond, ◌==◌, List, [], ◌∷◌, map, filter_map, flat_map, reverse, drop, slice_index, Option, Some, None, option_map}
use Rattle.std.specs.Int.{cast_unsigned, w32}
use Rattle.icu_char16trie.specs.Cursors.{units_of, value_of_key}
use Rattle.icu_normalizer_core.specs.CanonicalWords.{items_at}
use Rattle.icu_collator_types.specs.declared.elements.Element.{Element}
use Rattle.icu_collator_types.specs.declared.elements.word_tags.Tag.TheVariants.{Expansion32, Expansion, Prefix, Contraction, Digit}
use Rattle.icu_collator_types.specs.ElementWords.{has_tag, self_contained}
use Rattle.icu_collator_core.specs.Defaults.{moved_primary}

pub record Pools : Type 0 where
  -- elements of 64 bits, and what moves the primaries of ranges
  pub ces : List ℕ
  -- words
  pub ce32s : List ℕ
  -- contexts, each a default word of two units and a unit trie
  pub contexts : List ℕ

-- ## The fields of a word

-- the index that a word names
abbrev pub index_of : ℕ → ℕ
index_of word = word / 2 ^ 13

-- the length of the list that an expansion names
abbrev pub length_of : ℕ → ℕ
length_of word = word / 2 ^ 8 % 2 ^ 5

-- the value of a digit
abbrev pub digit_value : ℕ → ℕ
digit_value word = word / 2 ^ 8 % 2 ^ 4

-- ## Elements

-- an element of 64 bits, from the highest on: primary, secondary, case and tertiary, with the quaternary within its bits
abbrev pub element_of : ℕ → Element
element_of bits =
    record {
      primary = bits / 2 ^ 32;
      secondary = bits / 2 ^ 16 % 2 ^ 16;
      case = bits / 2 ^ 14 % 2 ^ 2;
      tertiary = bits / 2 ^ 8 % 2 ^ 6 * 2 ^ 8 + bits % 2 ^ 6;
      quaternary = bits / 2 ^ 6 % 2 ^ 2;
    }

-- the element that a word states by itself; the word of no element states none
abbrev pub stated_element : ℕ → Option Element
stated_element word = cond (word == 0) None (option_map element_of (self_contained word))

-- the elements of an expansion in words, and of one in elements
abbrev pub expanded_words : Pools → ℕ → List Element
expanded_words pools word = filter_map stated_element (items_at pools.ce32s (index_of word) (length_of word))

abbrev pub expanded_elements : Pools → ℕ → List Element
expanded_elements pools word = map element_of (items_at pools.ces (index_of word) (length_of word))

-- The elements of a word that needs no look at other characters: none, a list, or one. Other words have no elements.
unfoldable pub elements_of_word : Pools → ℕ → Option (List Element)
elements_of_word pools word =
    cond (word == 0) (Some [])
    (cond (has_tag Expansion32 word) (Some (expanded_words pools word))
    (cond (has_tag Expansion word) (Some (expanded_elements pools word))
    (option_map (λ e. e ∷ []) (stated_element word))))

-- ## Ranges

-- the primary of a character in a range, by 64 bits: the primary of a base in the upper half; the base, whether the lead is
-- compressible, and the step from character to character in the lower
unfoldable pub offset_primary : ℕ → ℕ → ℕ
offset_primary bits c =
    let by = (c - bits / 2 ^ 8 % 2 ^ 24) * (bits % 2 ^ 7)
    in moved_primary (bits / 2 ^ 7 % 2 == 1) (bits / 2 ^ 32) by

-- ## Contexts

-- the word that counts in a context where nothing in its trie does
abbrev pub default_word : List ℕ → ℕ → ℕ
default_word contexts index = slice_index contexts index * 2 ^ 16 + slice_index contexts (index + 1)

-- the units of a context's trie, and all that stands after it
abbrev pub trie_of : List ℕ → ℕ → List ℕ
trie_of contexts index = drop (index + 2) contexts

-- the word that a context has for characters
unfoldable pub word_in_context : List ℕ → ℕ → List ℕ → Option ℕ
word_in_context contexts index cs = option_map (cast_unsigned w32) (value_of_key (trie_of contexts index) (flat_map units_of cs))

-- the word where no prefix counts
unfoldable pub unprefixed_word : Pools → ℕ → ℕ
unprefixed_word pools word = cond (has_tag Prefix word) (default_word pools.contexts (index_of word)) word

-- the word of a character by itself, no prefix before it and no suffix after it, and not read as a digit
unfoldable pub lone_word : Pools → ℕ → ℕ
lone_word pools word =
    let unprefixed = unprefixed_word pools word
    in cond (has_tag Contraction unprefixed) (default_word pools.contexts (index_of unprefixed))
    (cond (has_tag Digit unprefixed) (slice_index pools.ce32s (index_of unprefixed)) unprefixed)

-- the word of a character with others after it
unfoldable pub suffix_word : Pools → ℕ → List ℕ → Option ℕ
suffix_word pools word suffix =
    let unprefixed = unprefixed_word pools word
    in cond (has_tag Contraction unprefixed) (word_in_context pools.contexts (index_of unprefixed) suffix) None

-- the word of a character after others, which stand in its context the nearest first
unfoldable pub prefix_word : Pools → ℕ → List ℕ → Option ℕ
prefix_word pools word prefix =
    cond (has_tag Prefix word) (word_in_context pools.contexts (index_of word) (reverse prefix)) None
