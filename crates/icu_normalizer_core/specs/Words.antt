-- Words of code points with the lists that they name indices in, and what they say of characters.
use Rattle.std.specs.Prelude.{ℕ, Bool, List}
use Rattle.std.specs.Option.{unwrap_or}
use Rattle.icu_codepointtrie.specs.Slots.{value_at, has_cell}
use Rattle.icu_normalizer_core.specs.declared.canonical.canonical_words.Words.{Words}
use Rattle.icu_normalizer_core.specs.CanonicalLists.{CanonicalLists}
use Rattle.icu_normalizer_core.specs.CanonicalWords.{plain_word, is_inside, class_of_word, full_of_word}

-- whether a code point has a word, and its plain word; the lists that words name indices in
pub record WordLists : Type 0 where
  pub has_word : ℕ → Bool
  pub word : ℕ → ℕ
  pub scalars16 : List ℕ
  pub scalars24 : List ℕ

-- the words of canonical tables
abbrev pub words_of : CanonicalLists → WordLists
words_of lists = record { has_word = lists.has_word; word = lists.word; scalars16 = lists.scalars16; scalars24 = lists.scalars24 }

-- words as lists
abbrev pub word_lists : Words → WordLists
word_lists words = record {
  has_word = λ c. has_cell words.trie.now c;
  word = λ c. plain_word (unwrap_or (value_at words.trie.now c) 0);
  scalars16 = words.scalars16.now;
  scalars24 = words.scalars24.now;
}

-- the full list that the words state of a character, and its class
abbrev pub full_in : WordLists → ℕ → List ℕ
full_in words c = full_of_word words.scalars16 words.scalars24 c (words.word c)

abbrev pub class_in : WordLists → ℕ → ℕ
class_in words c = class_of_word c (words.word c)

-- a character's word names no index outside the lists
abbrev pub is_inside_in : WordLists → ℕ → Bool
is_inside_in words c = is_inside words.scalars16 words.scalars24 (words.word c)
