-- A layer in the making: the words of characters, and the lists that they name indices in.
use Rattle.std.specs.Prelude.{◌≡◌, ℕ, ◌+◌, ◌≤◌, Bool, false, ◌==◌, List, length, MatchBool, MatchOption, Option, option_map}
use Rattle.std.specs.Char.{IsScalar}
use Rattle.std.specs.List.{list_any}
use Rattle.icu_codepointtrie.specs.Blocks.{different_blocks}
use Rattle.icu_codepointtrie.specs.CodePointMaps.{IsWritten, mapped}
use Rattle.icu_collator_core.specs.TableMeaning.{fallback}
use Rattle.icu_collator_core.specs.UnrecordedWords.{implicit}
use Rattle.collate_lines.specs.Record.{Layer, Record, root, tailoring}
use Rattle.collate_rules.specs.Meaning.{first_found, is_compressible_in, range_in}
use Rattle.collate_words.specs.Growth.{Grows, GrowsFor}
use Rattle.collate_words.specs.Sayings.{Saying}
use Rattle.collate_words.specs.Written.{SaysOf}
use Rattle.collate_compile.specs.declared.layer_builder.LayerBuilder.{LayerBuilder}
use Rattle.collate_compile.specs.LineSayings.{IsSayingOf, offset_bits, ranged_saying}

-- the word of a character
abbrev pub word_of : LayerBuilder → ℕ → ℕ
word_of builder c = mapped builder.words c

-- ## What is written

-- the word of a character says all that lines record of it
abbrev pub IsGiven : List Record → LayerBuilder → ℕ → Type 0
IsGiven lines builder c =
    (saying : Saying) × IsSayingOf lines c saying × SaysOf builder.pools (word_of builder c) saying

-- what moves the primary of the range that holds a character, among some of the lines
abbrev pub offset_among : List Record → List Record → ℕ → Option ℕ
offset_among lines some c = option_map (offset_bits (is_compressible_in lines)) (first_found (range_in c) some)

-- the word of a character says what range it is in, if any
abbrev pub IsRanged : List Record → List Record → LayerBuilder → ℕ → Type 0
IsRanged lines some builder c =
    MatchOption (offset_among lines some c) (word_of builder c ≡ implicit)
    (λ bits. SaysOf builder.pools (word_of builder c) (ranged_saying bits))

-- the word of a character that nothing is written for
abbrev pub unwritten_word : Layer → ℕ
unwritten_word root = implicit
unwritten_word tailoring = fallback

-- the word of a character that begins no record of a layer
abbrev pub IsLeft : Layer → List Record → LayerBuilder → ℕ → Type 0
IsLeft root lines builder c = IsRanged lines lines builder c
IsLeft tailoring lines builder c = word_of builder c ≡ fallback

-- The ranges of some lines are written, and nothing else.
pub record AreRangesWritten (lines some : List Record) (builder : LayerBuilder) : Type 0 where
  pub unwritten : builder.words.default ≡ implicit
  pub words : (c : ℕ) → IsScalar c → IsRanged lines some builder c

-- What is recorded of these characters is written, and no other character's word.
pub record AreWritten (layer : Layer) (lines : List Record) (cs : List ℕ) (builder : LayerBuilder) : Type 0 where
  pub unwritten : builder.words.default ≡ unwritten_word layer
  pub words : (c : ℕ) → IsScalar c
      → MatchBool (list_any (λ d. c == d) cs) (IsGiven lines builder c) (IsLeft layer lines builder c)

-- ## Writes

-- Some characters are given a word that says this. (A write of the word that stands where nothing is written is none.)
pub record GivesWord (old new : LayerBuilder) (covers : ℕ → Bool) (saying : Saying) : Type 0 where
  pub word : ℕ
  pub says : SaysOf new.pools word saying
  pub written : IsWritten (λ n. n) old.words covers word new.words
  pub grows : Grows old.pools new.pools

-- the map goes on as one of as many words, for the same type of trie
pub record IsSameMap (old new : LayerBuilder) : Type 0 where
  pub count : length new.words.values ≡ length old.words.values
  pub trie_type : new.words.trie_type ≡ old.words.trie_type

-- a layer grows for so many elements, and by so many different blocks of a width at most
pub record GrowsBy (elements block_count : ℕ) (old new : LayerBuilder) : Type 0 where
  pub pools : GrowsFor elements 0 old.pools new.pools
  pub blocks : (width : ℕ)
      → different_blocks (λ n. n) width new.words.values ≤ different_blocks (λ n. n) width old.words.values + block_count
  pub same : IsSameMap old new

-- a layer grows for so many elements and texts, and the word of any other character stays
pub record KeepsOthers (elements texts : ℕ) (cs : List ℕ) (old new : LayerBuilder) : Type 0 where
  pub pools : GrowsFor elements texts old.pools new.pools
  pub words : (c : ℕ) → c ≤ 0x10_FFFF → list_any (λ d. c == d) cs ≡ false → word_of new c ≡ word_of old c
  pub same : IsSameMap old new
