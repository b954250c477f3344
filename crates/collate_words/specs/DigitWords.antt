-- The word of a digit: its value, and the word that counts where numbers aren't compared by value.
use Rattle.std.specs.Prelude.{◌≡◌, ℕ, ◌^◌, ◌<◌, true, length, slice_index}
use Rattle.icu_collator_types.specs.declared.elements.word_tags.Tag.TheVariants.{Digit}
use Rattle.icu_collator_core.specs.Pools.{Pools, digit_value, index_of}
use Rattle.icu_collator_core.specs.WordForms.{has_form}

-- a word is that of a digit with this value, and with this word for the other cases
pub record IsDigitOver (pools : Pools) (word value own : ℕ) : Type 0 where
  pub fits : word < 2 ^ 32
  pub form : has_form Digit word ≡ true
  pub says : digit_value word ≡ value
  pub inside : index_of word < length pools.ce32s
  pub over : slice_index pools.ce32s (index_of word) ≡ own
