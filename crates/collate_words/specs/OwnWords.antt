-- Words that need no look at other characters, and what they say.
use Rattle.std.specs.Prelude.{◌≡◌, ℕ, ◌^◌, ◌<◌, true, cond, List, slice_index, Option, Some, None}
use Rattle.icu_collator_types.specs.declared.elements.Element.{Element}
use Rattle.icu_collator_types.specs.declared.elements.word_tags.Tag.TheVariants.{Offset}
use Rattle.icu_collator_types.specs.ElementWords.{has_tag}
use Rattle.icu_collator_core.specs.Pools.{Pools, elements_of_word, index_of}
use Rattle.icu_collator_core.specs.UnrecordedWords.{implicit}
use Rattle.icu_collator_core.specs.WordForms.{is_own_word}
use Rattle.icu_collator_core.specs.WordIndices.{has_items}

-- what moves the primary of a range, if a word names that
abbrev pub offset_named : Pools → ℕ → Option ℕ
offset_named pools word = cond (has_tag Offset word) (Some (slice_index pools.ces (index_of word))) None

-- A word says these elements by itself; or it has none, and names what moves the primary of a range, or is implicit.
pub record IsOwnWord (pools : Pools) (word : ℕ) (elements : Option (List Element)) (offset : Option ℕ) : Type 0 where
  pub fits : word < 2 ^ 32
  pub form : is_own_word pools word ≡ true
  pub inside : has_items pools word ≡ true
  pub says : elements_of_word pools word ≡ elements
  pub ranged : offset_named pools word ≡ offset
  pub bare : elements ≡ None → offset ≡ None → word ≡ implicit
