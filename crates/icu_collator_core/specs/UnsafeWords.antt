-- Which characters the words of tables make unsafe: those of the texts in contexts after a character, and
-- a character with texts in its context before it.
use Rattle.std.specs.Prelude.{◌≡◌, ℕ, zero, suc, ℤ, ◌⊎◌, ◌<◌, ◌≤◌, Bool, true, ◌||◌, List, length, flat_map, slice_index, IsTrue, MatchOption}
use Rattle.std.specs.Char.{IsScalar}
use Rattle.std.specs.Int.{cast_unsigned, w32}
use Rattle.std.specs.List.{Contains}
use Rattle.std.specs.List.Sorted.{IsStrictlyIncreasing}
use Rattle.std.specs.Option.{is_some}
use lib.Utf8.{scalars}
use Rattle.icu_char16trie.specs.Cursors.{units_of}
use Rattle.icu_char16trie.specs.UnitMaps.{MapsKey, at_node}
use Rattle.icu_normalizer_core.specs.Canonical.{Canonical}
use Rattle.icu_collator_types.specs.declared.elements.word_tags.Tag.TheVariants.{Contraction, Prefix}
use Rattle.icu_collator_types.specs.ElementWords.{has_tag}
use Rattle.icu_collator_core.specs.declared.tables.CollationTables.{CollationTables}
use Rattle.icu_collator_core.specs.declared.tables.data.CollationData.{CollationData}
use Rattle.icu_collator_core.specs.declared.check.walks.Reading.{Reading}
use Rattle.icu_collator_core.specs.declared.check.walks.Reading.TheVariants.{Whole, Half, Broken}
use Rattle.icu_collator_core.specs.declared.unsafe_characters.context_texts.Met.{Met}
use Rattle.icu_collator_core.specs.declared.unsafe_characters.context_texts.Side.{Side}
use Rattle.icu_collator_core.specs.declared.unsafe_characters.context_texts.Side.TheVariants.{Before, Behind}
use Rattle.icu_collator_core.specs.ContextRules.{longest_suffix}
use Rattle.icu_collator_core.specs.Pools.{Pools, elements_of_word, index_of, trie_of, unprefixed_word}
use Rattle.icu_collator_core.specs.TableMeaning.{TableWord, counting_word, word_at}
use Rattle.icu_collator_core.specs.TextFolds.{has_met}
use Rattle.icu_collator_core.specs.UnsafeCharacters.{IsUnsafeByRecords}
use Rattle.icu_collator_core.specs.WeightLists.{Lists}
use Rattle.icu_collator_core.specs.Weights.{Weights}
use Rattle.icu_collator_core.specs.WordForms.{AreReadable}

-- ## Texts of a context

-- a key is the units of these characters, of which there are no more than may be
pub record IsKeyOf (cs key : List ℕ) : Type 0 where
  pub units : flat_map units_of cs ≡ key
  pub scalars : scalars cs ≡ true
  pub short : length cs ≤ longest_suffix

-- the characters that a text makes unsafe: all of one that stands after a character, or the one that it stands before
abbrev pub MakesUnsafeBy : Side → List ℕ → ℕ → Type 0
MakesUnsafeBy Behind cs d = Contains cs d
MakesUnsafeBy (Before c) cs d = d ≡ c

-- a key makes a character unsafe
abbrev pub KeyMakesUnsafe : Side → List ℕ → ℕ → Type 0
KeyMakesUnsafe side key d = (cs : List ℕ) × IsKeyOf cs key × MakesUnsafeBy side cs d

-- a key with a word makes it unsafe: the word has elements
abbrev pub EntryMakesUnsafe : Pools → Side → List ℕ → ℤ → ℕ → Type 0
EntryMakesUnsafe pools side key number d =
    IsTrue (is_some (elements_of_word pools (cast_unsigned w32 number))) × KeyMakesUnsafe side key d

-- the context that a word names makes it unsafe
abbrev pub ContextMakesUnsafe : Pools → Side → ℕ → ℕ → Type 0
ContextMakesUnsafe pools side word d =
    (key : List ℕ) × (number : ℤ)
    × AreReadable (trie_of pools.contexts (index_of word))
    × MapsKey (trie_of pools.contexts (index_of word)) (at_node 0) key number
    × EntryMakesUnsafe pools side key number d

-- ## The characters at an index of texts

-- the last of so many characters of a text, or for none of them the first
abbrev pub IsLastOf : ℕ → ℕ → List ℕ → ℕ → Type 0
IsLastOf zero first cs d = d ≡ first
IsLastOf (suc index) first cs d = (index < length cs) × (d ≡ slice_index cs index)

-- a key gives it
abbrev pub KeyGives : ℕ → ℕ → List ℕ → ℕ → Type 0
KeyGives many first key d = (cs : List ℕ) × IsKeyOf cs key × IsLastOf many first cs d

-- the context that a word names does, by a key whose word has elements
abbrev pub ContextGives : Pools → ℕ → ℕ → ℕ → ℕ → Type 0
ContextGives pools many first word d =
    (key : List ℕ) × (number : ℤ)
    × AreReadable (trie_of pools.contexts (index_of word))
    × MapsKey (trie_of pools.contexts (index_of word)) (at_node 0) key number
    × IsTrue (is_some (elements_of_word pools (cast_unsigned w32 number)))
    × KeyGives many first key d

-- what the units of a key come to gives it, with a word
abbrev pub ReadingGives : Pools → ℕ → Reading Met → ℕ → ℕ → Type 0
ReadingGives pools many (Whole met) word d = IsTrue (is_some (elements_of_word pools word)) × IsTrue (has_met many met) × (d ≡ met.character)
ReadingGives pools many (Half met upper) word d = ⊥
ReadingGives pools many Broken word d = ⊥

-- ## Words of characters

-- what the word of a character makes unsafe: what may stand after it, and the character itself where texts may stand before it
abbrev pub WordMakesUnsafe : TableWord → ℕ → ℕ → Type 0
WordMakesUnsafe entry c d =
    (IsTrue (has_tag Contraction (unprefixed_word entry.pools entry.word)) × ContextMakesUnsafe entry.pools Behind (unprefixed_word entry.pools entry.word) d)
    ⊎ (IsTrue (has_tag Prefix entry.word) × ContextMakesUnsafe entry.pools (Before c) entry.word d)

-- a word names a context
abbrev pub names_context : ℕ → Bool
names_context word = has_tag Contraction word || has_tag Prefix word

-- a character whose word in these data names a context, though another word may count, makes it unsafe
abbrev pub MakesUnsafeIn : Canonical → CollationTables → CollationData → ℕ → ℕ → Type 0
MakesUnsafeIn canonical tables source c d =
    IsScalar c × IsTrue (names_context (word_at source c)) × WordMakesUnsafe (counting_word canonical tables c) c d

-- some such character does
abbrev pub IsUnsafeIn : Canonical → CollationTables → CollationData → ℕ → Type 0
IsUnsafeIn canonical tables source d = (c : ℕ) × MakesUnsafeIn canonical tables source c d

abbrev pub IsUnsafeInTailoring : Canonical → CollationTables → ℕ → Type 0
IsUnsafeInTailoring canonical tables d = MatchOption tables.tailoring ⊥ (λ source. IsUnsafeIn canonical tables source d)

-- ## The list

-- just the characters that are unsafe by what is recorded, rising
pub record AreUnsafeByRecords (weights : Weights) (characters : List ℕ) : Type 0 where
  pub all : Lists (IsUnsafeByRecords weights) characters
  pub rising : IsStrictlyIncreasing characters
