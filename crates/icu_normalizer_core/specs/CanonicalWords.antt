-- The words of canonical tables. A word says of its character a class or a full list, which may stand in two lists: scalars16 for characters below 2 ^ 16, scalars24 for any.
use Rattle.std.specs.Prelude.{ℕ, ◌+◌, ◌-◌, ◌/◌, ◌%◌, ◌^◌, Bool, true, cond, ◌==◌, ◌&&◌, ◌||◌, leb, ltb, List, [], ◌∷◌, length, take, drop, Option, Some}
use Rattle.std.specs.Option.{is_some, unwrap_or}
use Rattle.icu_normalizer_core.specs.BuiltIn.{is_within, is_syllable, is_jamo, singled_out, built_in_class}

-- a word without its two uppermost bits, which say nothing here
abbrev pub plain_word : ℕ → ℕ
plain_word word = word % 2 ^ 30

-- a mark's word: D800 and its class
abbrev pub is_mark_word : ℕ → Bool
is_mark_word word = is_within 0xd801 0xd8fe word

-- the word of one of the seven whose mapping is built in without a composed pair; its low byte says nothing
abbrev pub is_singled_word : ℕ → Bool
is_singled_word word = is_within 0xd900 0xd9ff word

-- the word of a list of one character: that character
abbrev pub is_one_word : ℕ → Bool
is_one_word word = is_within 2 0xd7ff word || is_within 0xe000 0xffff word

-- the word of two characters: the first, from 20 on, in 15 bits, the second above
abbrev pub is_pair_word : ℕ → Bool
is_pair_word word = leb 0x10000 word && leb 0x20 (word % 2 ^ 15)

-- the word of a list that stands in one of the two lists
abbrev pub is_list_word : ℕ → Bool
is_list_word word = leb 0x10000 word && ltb (word % 2 ^ 16) 0x20

-- the word states the full list, and is not that of a character with a built-in mapping
abbrev pub states_list : ℕ → Bool
states_list word = is_one_word word || (is_pair_word word || is_list_word word)

-- the word has one of the forms for the character: 0 for one that is its own full list and a starter, 1 for a syllable
unfoldable pub is_word : ℕ → ℕ → Bool
is_word c word =
    (word == 0) || ((word == 1) && is_syllable c) || is_mark_word word || (is_singled_word word && is_some (singled_out c)) || states_list word

-- where a list begins: among scalars16, and after their end among scalars24
abbrev pub list_offset : ℕ → ℕ
list_offset word = word / 2 ^ 16 - 1

-- how many characters a list in scalars16 has, and one in scalars24
abbrev pub length_in_16 : ℕ → ℕ
length_in_16 word = word % 16 + 2

abbrev pub length_in_24 : ℕ → ℕ
length_in_24 word = word % 16 + 1

-- the list begins among scalars16
abbrev pub is_in_16 : List ℕ → ℕ → Bool
is_in_16 scalars16 word = ltb (list_offset word) (length scalars16)

abbrev pub items_at : List ℕ → ℕ → ℕ → List ℕ
items_at list index count = take count (drop index list)

-- the list of a list's word; of indices outside what is there
unfoldable pub list_at : List ℕ → List ℕ → ℕ → List ℕ
list_at scalars16 scalars24 word =
    cond (is_in_16 scalars16 word)
    (items_at scalars16 (list_offset word) (length_in_16 word))
    (items_at scalars24 (list_offset word - length scalars16) (length_in_24 word))

-- the word names no index outside the lists
unfoldable pub is_inside : List ℕ → List ℕ → ℕ → Bool
is_inside scalars16 scalars24 word =
    let in_16 = leb (list_offset word + length_in_16 word) (length scalars16)
    in let in_24 = leb (list_offset word - length scalars16 + length_in_24 word) (length scalars24)
    in let inside = cond (is_in_16 scalars16 word) in_16 in_24
    in cond (is_list_word word) inside true

-- the full list of a Hangul syllable: its leading consonant, its vowel and its trailing consonant, if it has one
unfoldable pub syllable_letters : ℕ → List ℕ
syllable_letters c =
    let i = c - 0xac00
    in let trailing = (0x11a7 + i % 28) ∷ []
    in (0x1100 + i / 588) ∷ (0x1161 + i % 588 / 28) ∷ cond ((i % 28) == 0) [] trailing

-- the full list of a character with a built-in mapping
unfoldable pub built_in_full : ℕ → Option (List ℕ)
built_in_full c =
    cond (is_syllable c) (Some (syllable_letters c))
    (cond (is_jamo c || (c == 0xfffd)) (Some (c ∷ [])) (singled_out c))

-- the class that the word says of the character: that of a mark, a built-in one, else that of starters
unfoldable pub class_of_word : ℕ → ℕ → ℕ
class_of_word c word =
    cond (is_mark_word word) (word - 0xd800)
    (cond (is_singled_word word) (unwrap_or (built_in_class c) 0) 0)

-- the full list that the word says of the character
unfoldable pub full_of_word : List ℕ → List ℕ → ℕ → ℕ → List ℕ
full_of_word scalars16 scalars24 c word =
    cond (is_list_word word) (list_at scalars16 scalars24 word)
    (cond (is_pair_word word) ((word % 2 ^ 15) ∷ (word / 2 ^ 15) ∷ [])
    (cond (is_one_word word) (word ∷ [])
    (cond (word == 1) (syllable_letters c)
    (cond (is_singled_word word) (unwrap_or (singled_out c) (c ∷ [])) (c ∷ [])))))
