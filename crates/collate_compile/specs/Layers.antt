-- The data of the root and of the tailoring, as they are written of lines.
use Rattle.std.specs.Prelude.{◌≡◌, ℕ, List, IsTrue, MatchBool, MatchOption}
use Rattle.std.specs.Char.{IsScalar}
use Rattle.icu_codepointtrie.specs.declared.trie.TrieType.{TrieType}
use Rattle.icu_codepointtrie.specs.Slots.{has_cell}
use Rattle.icu_collator_core.specs.declared.tables.data.CollationData.{CollationData}
use Rattle.icu_collator_core.specs.TableMeaning.{fallback, pools_of, word_at}
use Rattle.icu_collator_core.specs.UnrecordedWords.{implicit}
use Rattle.collate_lines.specs.Record.{Record}
use Rattle.collate_words.specs.Sayings.{Saying}
use Rattle.collate_words.specs.Written.{SaysOf}
use Rattle.collate_compile.specs.LineSayings.{IsSayingOf, is_rooted, is_tailored, offset_of, ranged_saying}

-- the word of a character says all that lines record of it
abbrev pub IsWrittenOf : List Record → CollationData → ℕ → Type 0
IsWrittenOf lines source c = (saying : Saying) × IsSayingOf lines c saying × SaysOf (pools_of source) (word_at source c) saying

-- the word of a character says what range it is in, if any
abbrev pub IsUnwritten : List Record → CollationData → ℕ → Type 0
IsUnwritten lines source c =
    MatchOption (offset_of lines c) (word_at source c ≡ implicit) (λ bits. SaysOf (pools_of source) (word_at source c) (ranged_saying bits))

-- the trie is of this type
abbrev pub HasTrieType : TrieType → CollationData → Type 0
HasTrieType trie_type source = source.trie.header.trie_type ≡ trie_type

-- the root: characters that begin w lines alone, and ranges
pub record IsRootOf (lines : List Record) (source : CollationData) : Type 0 where
  pub cells : (c : ℕ) → IsScalar c → IsTrue (has_cell source.trie c)
  pub words : (c : ℕ) → IsScalar c → MatchBool (is_rooted lines c) (IsWrittenOf lines source c) (IsUnwritten lines source c)

-- the tailoring: characters that begin t lines
pub record IsTailoringOf (lines : List Record) (source : CollationData) : Type 0 where
  pub cells : (c : ℕ) → IsScalar c → IsTrue (has_cell source.trie c)
  pub words : (c : ℕ) → IsScalar c → MatchBool (is_tailored lines c) (IsWrittenOf lines source c) (word_at source c ≡ fallback)
