-- Recorded texts that begin with a character, by what stands after it.
use Rattle.std.specs.Prelude.{◌≡◌, ℕ, ◌+◌, cond, ltb, ◌++◌, List, length, take, reverse, flat_map, Option, Some, None, option_map}
use Rattle.std.specs.Int.{cast_unsigned, w32}
use Rattle.std.specs.Option.{is_some, option_and_then, unwrap_or}
use Rattle.icu_char16trie.specs.Cursors.{cursor_state, cursor_units, follow, units_of, value_of_key}
use Rattle.icu_char16trie.specs.UnitSteps.{start}
use Rattle.icu_char16trie.specs.declared.Char16TrieIterator.{Char16TrieIterator}
use Rattle.icu_collator_core.specs.declared.reading.suffixes.LongerText.{LongerText}
use Rattle.icu_collator_core.specs.Elements.{at_greatest, longest_prefix}
use Rattle.icu_collator_types.specs.declared.elements.word_tags.Tag.TheVariants.{Contraction, Prefix}
use Rattle.icu_collator_types.specs.ElementWords.{has_tag}
use Rattle.icu_collator_core.specs.Pools.{Pools, elements_of_word, index_of, trie_of, unprefixed_word}
use Rattle.icu_collator_core.specs.TableMeaning.{TableWord}

-- the word that a trie has for characters
abbrev pub word_by : List ℕ → List ℕ → Option ℕ
word_by units cs = option_map (cast_unsigned w32) (value_of_key units (flat_map units_of cs))

-- a text with so many characters after its first has this word, if the word has elements
unfoldable pub text_by : Pools → ℕ → ℕ → Option LongerText
text_by pools behind word = cond (is_some (elements_of_word pools word)) (Some (record { behind = behind; word = word })) None

-- the recorded text that ends after so many characters
unfoldable pub text_of_length : Pools → List ℕ → List ℕ → ℕ → Option LongerText
text_of_length pools units cs behind =
    cond (ltb 0 behind) (option_and_then (text_by pools behind) (word_by units (take behind cs))) None

-- the longest one
abbrev pub longest_text : Pools → List ℕ → List ℕ → Option LongerText
longest_text pools units cs = at_greatest (text_of_length pools units cs) (length cs)

-- what is found, or else what was found before
abbrev pub found_or : {A : Type 0} → Option A → Option A → Option A
found_or (Some x) before = Some x
found_or None before = before

-- the longest recorded text that begins with the character of a word, by the characters after it
unfoldable pub longer_by : TableWord → List ℕ → Option LongerText
longer_by entry cs =
    let word = unprefixed_word entry.pools entry.word
    in cond (has_tag Contraction word) (longest_text entry.pools (trie_of entry.pools.contexts (index_of word)) cs) None

-- how many characters the longest text has; a character alone is one
abbrev pub length_with : Option LongerText → ℕ
length_with text = unwrap_or (option_map (λ t. t.behind + 1) text) 1

-- the characters that stand directly before an index of a list, the nearest first, as many as a prefix may have
abbrev pub characters_before : List ℕ → ℕ → List ℕ
characters_before list index = take longest_prefix (reverse (take index list))

-- the same where others stand before the list, the nearest first
abbrev pub characters_behind : List ℕ → List ℕ → ℕ → List ℕ
characters_behind further list index = take longest_prefix (reverse (take index list) ++ further)

-- the longest recorded prefix of a word, by the characters before its own, the nearest first
unfoldable pub prefixed_by : TableWord → List ℕ → Option LongerText
prefixed_by entry before =
    cond (has_tag Prefix entry.word) (longest_text entry.pools (trie_of entry.pools.contexts (index_of entry.word)) before) None

-- the units of what may stand after the character of a word
abbrev pub suffix_units : TableWord → List ℕ
suffix_units entry = trie_of entry.pools.contexts (index_of (unprefixed_word entry.pools entry.word))

-- a cursor stands after these characters
pub record IsAtText (trie suffix : List ℕ) (cursor : Char16TrieIterator) : Type 0 where
  pub reads : cursor_units cursor ≡ trie
  pub stands : cursor_state cursor ≡ follow trie (start trie) (flat_map units_of suffix)

-- a word that has elements
unfoldable pub if_recorded : Pools → Option ℕ → Option ℕ
if_recorded pools word = option_and_then (λ w. cond (is_some (elements_of_word pools w)) (Some w) None) word
