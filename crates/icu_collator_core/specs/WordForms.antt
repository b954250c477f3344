-- The forms that words of collation tables may have, and the words that stand within others: the word of a digit, and the
-- default and the values of a context.
use Rattle.std.specs.Prelude.{ℕ, ℤ, ⊤, ◌-◌, ◌%◌, ◌^◌, ◌⊎◌, Bool, true, false, not, ◌==◌, ◌&&◌, ◌||◌, leb, List, slice_index, IsTrue, Some, None}
use Rattle.std.specs.Int.{cast_unsigned, w32}
use Rattle.std.specs.List.{list_all}
use Rattle.icu_char16trie.specs.UnitGrammar.{IsUnitTrie, IsWithin}
use Rattle.icu_char16trie.specs.UnitMaps.{MapsKey, at_node}
use Rattle.icu_normalizer_core.specs.CanonicalWords.{items_at}
use Rattle.icu_collator_types.specs.declared.elements.word_tags.Tag.{Tag}
use Rattle.icu_collator_types.specs.declared.elements.word_tags.Tag.TheVariants.{LongPrimary, LongSecondary, Expansion32, Expansion, Prefix, Contraction, Digit, Offset, Implicit}
use Rattle.icu_collator_types.specs.ElementBits.{element_bits}
use Rattle.icu_collator_types.specs.ElementWords.{has_tag, is_special, self_contained}
use Rattle.icu_collator_core.specs.declared.check.layers.Layer.{Layer}
use Rattle.icu_collator_core.specs.declared.check.layers.Layer.TheVariants.{Root, Tailoring}
use Rattle.icu_collator_core.specs.Defaults.{common, special_primary}
use Rattle.icu_collator_core.specs.Pools.{Pools, default_word, digit_value, index_of, length_of, trie_of}
use Rattle.icu_collator_core.specs.TableMeaning.{fallback}

-- ## Words that need no look at other characters

-- a word has a tag, and its low byte is the tag's alone
abbrev pub has_form : Tag → ℕ → Bool
has_form tag word = leb (word % 2 ^ 8) 0xcf && has_tag tag word

-- a word states an element, or none
abbrev pub states_element : ℕ → Bool
states_element word = not (is_special word) || (has_form LongPrimary word || has_form LongSecondary word)

-- a word names a list of words that state elements
abbrev pub is_list_of_words : Pools → ℕ → Bool
is_list_of_words pools word =
    has_form Expansion32 word && list_all states_element (items_at pools.ce32s (index_of word) (length_of word))

-- a word names other elements: those of a list, a primary of a range, or one that the code point gives
abbrev pub is_other_own : ℕ → Bool
is_other_own word = has_form Expansion word || (has_form Offset word || has_form Implicit word)

-- what a word says needs no look at other characters, and it is no digit's
abbrev pub is_own_word : Pools → ℕ → Bool
is_own_word pools word = states_element word || (is_list_of_words pools word || is_other_own word)

-- a digit up to 9, with the word that counts where numbers aren't compared by value
abbrev pub is_digit_word : Pools → ℕ → Bool
is_digit_word pools word =
    has_form Digit word && (leb (digit_value word) 9 && is_own_word pools (slice_index pools.ce32s (index_of word)))

-- a tailoring leaves the character to the root
abbrev pub is_fallback : Layer → ℕ → Bool
is_fallback Root word = false
is_fallback Tailoring word = word == fallback

-- ## Contexts

-- units keep the grammar of unit tries, and their keys are no longer than can be counted; all that fit a memory aren't
abbrev pub AreReadable : List ℕ → Type 0
AreReadable units = IsUnitTrie units × IsWithin units (2 ^ 64 - 1)

-- the entries of a unit trie pass a test; units that break the grammar have none
abbrev pub EntriesPass : (List ℕ → ℤ → Bool) → List ℕ → Type 0
EntriesPass passes units =
    AreReadable units → (key : List ℕ) (number : ℤ) → MapsKey units (at_node 0) key number → IsTrue (passes key number)

-- nothing is kept of keys
abbrev pub keeps_nothing : ⊤ → ℕ → ⊤
keeps_nothing kept unit = kept

-- a test of values, as words
abbrev pub by_word : (ℕ → Bool) → List ℕ → ℤ → Bool
by_word passes key number = passes (cast_unsigned w32 number)

-- the default of the context that a word names
abbrev pub default_of : Pools → ℕ → ℕ
default_of pools word = default_word pools.contexts (index_of word)

-- the values of the context that a word names pass a test
abbrev pub ValuesPass : Pools → (ℕ → Bool) → ℕ → Type 0
ValuesPass pools passes word = EntriesPass (by_word passes) (trie_of pools.contexts (index_of word))

-- what a word says depends on the characters after
abbrev pub IsContraction : Pools → ℕ → Type 0
IsContraction pools word =
    IsTrue (has_form Contraction word && is_own_word pools (default_of pools word)) × ValuesPass pools (is_own_word pools) word

-- where no prefix counts
abbrev pub IsUnprefixedWord : Pools → ℕ → Type 0
IsUnprefixedWord pools word = IsTrue (is_own_word pools word) ⊎ IsContraction pools word

-- what a word says depends on the characters before
abbrev pub IsPrefixed : Pools → ℕ → Type 0
IsPrefixed pools word =
    IsTrue (has_form Prefix word) × IsUnprefixedWord pools (default_of pools word) × ValuesPass pools (is_own_word pools) word

-- ## Words of characters

-- a word of one of the forms
abbrev pub IsWord : Layer → Pools → ℕ → Type 0
IsWord layer pools word =
    IsTrue (is_fallback layer word || is_digit_word pools word) ⊎ (IsUnprefixedWord pools word ⊎ IsPrefixed pools word)

-- a word states one element, with this primary and common weights
abbrev pub states_primary : ℕ → ℕ → Bool
states_primary p word = elim (self_contained word) [ Some bits ↦ bits == element_bits p common common | None ↦ false ]

-- U+FFFE, U+FFFD and U+FFFF have the words of their own elements, or words that say nothing of them
abbrev pub keeps_special : ℕ → ℕ → Bool
keeps_special c word =
    elim (special_primary c) [
      | Some p ↦ (word == fallback) || (has_form Implicit word || states_primary p word)
      | None ↦ true
    ]
