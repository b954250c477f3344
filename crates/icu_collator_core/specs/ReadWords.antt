-- The words by which a text is read, and what weights say of a character by its word.
use Rattle.std.specs.Prelude.{◌≡◌, ℕ, true, cond, List, [], ◌∷◌}
use Rattle.std.specs.Option.{unwrap_or}
use lib.Utf8.{scalars}
use Rattle.icu_normalizer_core.specs.BuiltIn.{is_jamo}
use Rattle.icu_collator_types.specs.declared.elements.Element.{Element}
use Rattle.icu_collator_core.specs.declared.table_words.counting_words.CountingWord.{CountingWord}
use Rattle.icu_collator_core.specs.Weights.{Weights}
use Rattle.icu_collator_core.specs.Defaults.{implicit_primary, jamo_primary, primary_element, special_primary}
use Rattle.icu_collator_core.specs.Pools.{elements_of_word}
use Rattle.icu_collator_core.specs.TableMeaning.{TableWord, digit_by, pools_of, ranged_by, recorded_by}

-- a word with the lists of its data
abbrev pub table_word : CountingWord → TableWord
table_word entry = record { word = entry.word; pools = pools_of entry.source.now }

-- what weights say of a character is said by this word
pub record AreSaidBy (weights : Weights) (entry : TableWord) (c : ℕ) : Type 0 where
  pub recorded : (prefix text : List ℕ) → scalars prefix ≡ true → scalars text ≡ true → weights.recorded prefix (c ∷ text) ≡ recorded_by entry c prefix text
  pub digit : weights.digit c ≡ digit_by entry
  pub ranged : weights.ranged_primary c ≡ ranged_by entry c

-- the element of a character by itself: special, in a range, a jamo, or implicit
unfoldable pub default_by : TableWord → ℕ → Element
default_by entry c =
    let unranged = cond (is_jamo c) (jamo_primary c) (implicit_primary c)
    in primary_element (unwrap_or (special_primary c) (unwrap_or (ranged_by entry c) unranged))

-- the elements of a character with nothing before or after it
unfoldable pub elements_alone_by : TableWord → ℕ → List Element
elements_alone_by entry c = unwrap_or (recorded_by entry c [] []) (default_by entry c ∷ [])

-- the elements of a word; where it has none, the character's own
abbrev pub elements_spelled_by : TableWord → ℕ → ℕ → List Element
elements_spelled_by entry c word = unwrap_or (elements_of_word entry.pools word) (default_by entry c ∷ [])
