-- The rules on contexts: of what characters a prefix or a suffix is made, which texts come with others, and what a word's
-- flags say of its suffixes.
use Rattle.std.specs.Prelude.{◌≡◌, ℕ, ℤ, ◌+◌, ◌-◌, ◌*◌, ◌/◌, ◌%◌, ◌^◌, ◌↔◌, Bool, true, false, cond, not, ◌==◌, ◌&&◌, ◌||◌, leb, List, [], ◌∷◌, length, take, reverse, IsTrue, Option, Some, None, is_some, option_map}
use Rattle.std.specs.List.{list_all, list_any}
use Rattle.icu_char16trie.specs.UnitGrammar.{IsUnitTrie}
use Rattle.icu_char16trie.specs.UnitMaps.{MapsKey, at_node}
use Rattle.icu_normalizer_core.specs.BuiltIn.{is_jamo, is_within}
use Rattle.icu_normalizer_core.specs.Canonical.{Canonical, is_starter}
use Rattle.icu_collator_types.specs.declared.elements.word_tags.Tag.TheVariants.{Contraction, Digit, Prefix}
use Rattle.icu_collator_types.specs.ElementWords.{has_tag}
use Rattle.icu_collator_core.specs.Elements.{longest_prefix}
use Rattle.icu_collator_core.specs.Pools.{index_of, trie_of, unprefixed_word}
use Rattle.icu_collator_core.specs.TableMeaning.{TableWord, recorded_by}
use Rattle.icu_collator_core.specs.Weights.{Weights}

-- ## Whole characters

abbrev pub is_upper_half : ℕ → Bool
is_upper_half unit = is_within 0xd800 0xdbff unit

abbrev pub is_lower_half : ℕ → Bool
is_lower_half unit = is_within 0xdc00 0xdfff unit

-- the character of two units
abbrev pub joined_halves : ℕ → ℕ → ℕ
joined_halves upper lower = 0x10000 + (upper - 0xd800) * 0x400 + (lower - 0xdc00)

-- the characters that units spell, unless a half stands alone
unfoldable pub characters_of_units : List ℕ → Option (List ℕ)
characters_of_units [] = Some []
characters_of_units (unit ∷ []) = cond (is_within 0xd800 0xdfff unit) None (Some (unit ∷ []))
characters_of_units (unit ∷ next ∷ units) =
    let single = option_map (λ cs. unit ∷ cs) (characters_of_units (next ∷ units))
    in let joined = option_map (λ cs. joined_halves unit next ∷ cs) (characters_of_units units)
    in cond (is_within 0xd800 0xdfff unit) (cond (is_upper_half unit && is_lower_half next) joined None) single

-- ## What is recorded: a text after a prefix, both in reading order

-- by the word of the text's first character
abbrev pub is_recorded_by : TableWord → List ℕ → List ℕ → Bool
is_recorded_by entry prefix [] = false
is_recorded_by entry prefix (c ∷ cs) = is_some (recorded_by entry c prefix cs)

-- by weights
abbrev pub is_recorded_in : Weights → List ℕ → List ℕ → Bool
is_recorded_in weights prefix text = is_some (weights.recorded prefix text)

-- ## Suffixes

-- after a mark stand only marks
unfoldable pub has_marks_last : Canonical → List ℕ → Bool
has_marks_last canonical [] = true
has_marks_last canonical (c ∷ cs) =
    cond (is_starter canonical c) (has_marks_last canonical cs) (list_all (λ m. not (is_starter canonical m)) cs)

abbrev pub begins_with_mark : Canonical → List ℕ → Bool
begins_with_mark canonical [] = false
begins_with_mark canonical (c ∷ cs) = not (is_starter canonical c)

abbrev pub ends_in_mark : Canonical → List ℕ → Bool
ends_in_mark canonical cs = begins_with_mark canonical (reverse cs)

abbrev pub holds_starter : Canonical → List ℕ → Bool
holds_starter canonical cs = list_any (is_starter canonical) cs

-- a text over two characters that ends in a mark is recorded without it
abbrev pub is_recorded_shorter : Canonical → (List ℕ → List ℕ → Bool) → ℕ → List ℕ → Bool
is_recorded_shorter canonical is_recorded c suffix =
    leb (length suffix) 1
    || (not (ends_in_mark canonical suffix) || is_recorded [] (c ∷ take (length suffix - 1) suffix))

-- how many characters a suffix may have
abbrev pub longest_suffix : ℕ
longest_suffix = 7

-- what may stand after a character
abbrev pub is_suffix : Canonical → (List ℕ → List ℕ → Bool) → ℕ → List ℕ → Bool
is_suffix canonical is_recorded c suffix =
    leb (length suffix) longest_suffix
    && (has_marks_last canonical (c ∷ suffix) && is_recorded_shorter canonical is_recorded c suffix)

-- ## Prefixes

-- a character that may stand in a prefix: a starter, no digit, no jamo, and not U+0000
abbrev pub is_prefix_character : Canonical → (ℕ → Option ℕ) → ℕ → Bool
is_prefix_character canonical digit c =
    is_starter canonical c && (not (is_some (digit c)) && (not (is_jamo c) && not (c == 0)))

-- what may stand before a character
abbrev pub is_prefix : Canonical → (ℕ → Option ℕ) → List ℕ → Bool
is_prefix canonical digit prefix = leb (length prefix) longest_prefix && list_all (is_prefix_character canonical digit) prefix

-- a character that may have prefixes: a starter, no digit, no jamo, and recorded alone
abbrev pub may_have_prefix : Canonical → (ℕ → Option ℕ) → (List ℕ → List ℕ → Bool) → ℕ → Bool
may_have_prefix canonical digit is_recorded c =
    is_starter canonical c && (not (is_some (digit c)) && (not (is_jamo c) && is_recorded [] (c ∷ [])))

-- ## Digits

-- a character that may be a digit: a starter, no jamo, and recorded alone
abbrev pub may_be_digit : Canonical → (List ℕ → List ℕ → Bool) → ℕ → Bool
may_be_digit canonical is_recorded c = is_starter canonical c && (not (is_jamo c) && is_recorded [] (c ∷ []))

-- ## Words with contexts

-- units keep the grammar of a unit trie, and each of its keys is whole characters that pass a test
abbrev pub KeysPass : (List ℕ → Bool) → List ℕ → Type 0
KeysPass passes units =
    IsUnitTrie units × ((key : List ℕ) (number : ℤ) → MapsKey units (at_node 0) key number
    → (cs : List ℕ) × (characters_of_units key ≡ Some cs) × IsTrue (passes cs))

-- Some key of a unit trie is characters that pass a test: it is not so that none is. Of units that keep the grammar, with
-- keys of whole characters, that is: some key passes.
abbrev pub SomeKeyPasses : (List ℕ → Bool) → List ℕ → Type 0
SomeKeyPasses passes units = KeysPass (λ cs. not (passes cs)) units → ⊥

-- the flags of a contraction
abbrev pub has_flag : ℕ → ℕ → Bool
has_flag index word = word / 2 ^ index % 2 == 1

-- each flag is set just where what it says is so: each suffix begins with a mark, one ends in a mark, one holds a starter
pub record AreFlagsTrue (canonical : Canonical) (word : ℕ) (units : List ℕ) : Type 0 where
  pub all_begin : IsTrue (has_flag 9 word) ↔ KeysPass (begins_with_mark canonical) units
  pub one_ends : IsTrue (has_flag 10 word) ↔ SomeKeyPasses (ends_in_mark canonical) units
  pub one_holds : IsTrue (has_flag 11 word) ↔ SomeKeyPasses (holds_starter canonical) units

-- the units that a word names
abbrev pub units_named : TableWord → ℕ → List ℕ
units_named entry word = trie_of entry.pools.contexts (index_of word)

-- the word of a character keeps the rules on contexts
pub record KeepsContextRules (canonical : Canonical) (digit : ℕ → Option ℕ) (entry : TableWord) (c : ℕ) : Type 0 where
  pub digits : IsTrue (has_tag Digit entry.word) → IsTrue (may_be_digit canonical (is_recorded_by entry) c)
  pub prefixed : IsTrue (has_tag Prefix entry.word) → IsTrue (may_have_prefix canonical digit (is_recorded_by entry) c)
  pub prefixes : IsTrue (has_tag Prefix entry.word) → KeysPass (is_prefix canonical digit) (units_named entry entry.word)
  pub suffixes :
      IsTrue (has_tag Contraction (unprefixed_word entry.pools entry.word))
      → KeysPass (is_suffix canonical (is_recorded_by entry) c) (units_named entry (unprefixed_word entry.pools entry.word))
  pub flags :
      IsTrue (has_tag Contraction (unprefixed_word entry.pools entry.word))
      → AreFlagsTrue canonical (unprefixed_word entry.pools entry.word) (units_named entry (unprefixed_word entry.pools entry.word))
