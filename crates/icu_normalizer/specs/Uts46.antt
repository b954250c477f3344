-- Mapper tables: what is done with each character of a domain name (UTS 46).
use Rattle.std.specs.Prelude.{◌≡◌, ℕ, ◌+◌, ◌/◌, ◌%◌, ◌^◌, Bool, true, cond, ◌==◌, ◌&&◌, ◌||◌, leb, ltb, List, [], ◌∷◌, length, take, drop, flat_map}
use Rattle.std.specs.Char.{IsScalar}
use Rattle.std.specs.Option.{unwrap_or}
use Rattle.icu_codepointtrie.specs.Slots.{value_at, has_cell}
use Rattle.icu_normalizer_core.specs.declared.provider.provider_lists.Uts46Tables.{Uts46Tables}

-- what is done with a character
pub data Mapping : Type 0 where
  Valid : Mapping
  Mapped : List ℕ → Mapping
  Ignored : Mapping
  Disallowed : Mapping

-- what a character becomes, where `ignored` stands for an ignored one; U+FFFD stands for a disallowed one
abbrev pub becomes : List ℕ → ℕ → Mapping → List ℕ
becomes ignored c Valid = c ∷ []
becomes ignored c (Mapped list) = list
becomes ignored c Ignored = ignored
becomes ignored c Disallowed = 0xfffd ∷ []

-- the same of each character of a text
abbrev pub mapped_with : List ℕ → (ℕ → Mapping) → List ℕ → List ℕ
mapped_with ignored table text = flat_map (λ c. becomes ignored c (table c)) text

-- a text mapped, ignored characters dropped
abbrev pub mapped : (ℕ → Mapping) → List ℕ → List ℕ
mapped table text = mapped_with [] table text

-- a text mapped, U+FFFD for ignored characters
abbrev pub validated : (ℕ → Mapping) → List ℕ → List ℕ
validated table text = mapped_with (0xfffd ∷ []) table text

-- ---- Words

-- where the list of a word stands, and how many characters it has
abbrev pub list_index : ℕ → ℕ
list_index word = word / 2 ^ 13

abbrev pub list_count : ℕ → ℕ
list_count word = word / 2 ^ 8 % 2 ^ 5

-- the word is that of a mapped character, and its list has a character and ends within so many
abbrev pub is_list_word : ℕ → ℕ → Bool
is_list_word items word = ((word % 2 ^ 8) == 3) && (ltb 0 (list_count word) && leb (list_index word + list_count word) items)

-- what a word says: 0 valid, 1 ignored, 2 disallowed, else mapped
abbrev pub mapping_of_word : List ℕ → ℕ → Mapping
mapping_of_word scalars24 word =
    cond (word == 0) Valid
    (cond (word == 1) Ignored
    (cond (word == 2) Disallowed
    (Mapped (take (list_count word) (drop (list_index word) scalars24)))))

-- ---- Tables

abbrev pub word_of : Uts46Tables → ℕ → ℕ
word_of tables c = unwrap_or (value_at tables.trie c) 0

-- what the tables say of characters
abbrev pub mapper_of : Uts46Tables → ℕ → Mapping
mapper_of tables c = mapping_of_word tables.scalars24 (word_of tables c)

-- the character has a word, of one of the forms
abbrev pub has_good_word : Uts46Tables → ℕ → Bool
has_good_word tables c = has_cell tables.trie c && (ltb (word_of tables c) 3 || is_list_word (length tables.scalars24) (word_of tables c))

-- each character has one
abbrev pub IsMapperTable : Uts46Tables → Type 0
IsMapperTable tables = (c : ℕ) → IsScalar c → has_good_word tables c ≡ true
