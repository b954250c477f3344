-- What a borrowed collator answers of texts, as the laws of collators speak of it.
use Rattle.std.specs.Prelude.{◌≡◌, ℕ, true, List}
use Rattle.std.specs.declared.cmp.Ordering.{Ordering}
use Rattle.icu_normalizer_core.specs.Canonical.{Canonical}
use Rattle.icu_normalizer_core.specs.Decoding.{latin1_chars, utf16_chars, utf8_chars}
use Rattle.icu_collator_types.specs.Options.{is_at_least, is_numeric}
use Rattle.icu_collator_types.specs.declared.options.CaseLevel.TheVariants.{Off}
use Rattle.icu_collator.specs.Collators.{borrowed_collation, borrowed_options, borrowed_source}
use Rattle.icu_collator.specs.KeyBytes.{key_of_text}
use Rattle.icu_collator.specs.NumbersInTexts.{AreDigitsAlone, AreDigitsApart, AreDotsLight, IsNumberBetween, no_number_is_variable, run_value}
use Rattle.icu_collator.specs.Order.{collation_order}
use Rattle.icu_collator.specs.Settings.{has_plain_leads}
use Rattle.icu_collator.specs.Strengths.{at_strength}
use Rattle.icu_collator.specs.LeadMoves.{ReordersWholeLeads}
use Rattle.icu_collator.specs.declared.comparison.borrowed.CollatorBorrowed.{CollatorBorrowed}

-- the order of two texts by a collator, and the key of one, where texts are given as characters
abbrev pub order_by : CollatorBorrowed → List ℕ → List ℕ → Ordering
order_by collator = collation_order (borrowed_collation collator) (borrowed_options collator)

abbrev pub key_by : CollatorBorrowed → List ℕ → List ℕ
key_by collator = key_of_text (borrowed_collation collator) (borrowed_options collator)

-- the canonical data of a collator
abbrev pub canonical_by : CollatorBorrowed → Canonical
canonical_by collator = (borrowed_collation collator).canonical

-- a collator whose keys order as texts do: its tables reorder whole leads alone, and with numeric ordering the lead of numbers
-- isn't compressible
pub record HasKeysInOrder (collator : CollatorBorrowed) : Type 0 where
  pub leads : ReordersWholeLeads (borrowed_source collator).tables
  pub plain : has_plain_leads (borrowed_collation collator) (borrowed_options collator) ≡ true

-- a collator that reads digits as numbers, wherever they stand
pub record ReadsNumbers (collator : CollatorBorrowed) : Type 0 where
  pub numeric : is_numeric (borrowed_options collator).numeric ≡ true
  pub apart : AreDigitsApart (borrowed_collation collator)

-- a collator that orders texts by numbers: none is variable, and a dot above may be dropped before one if it has no primary
-- weight
pub record OrdersNumbers (collator : CollatorBorrowed) : Type 0 where
  pub numeric : is_numeric (borrowed_options collator).numeric ≡ true
  pub digits : AreDigitsAlone (borrowed_collation collator)
  pub dots : AreDotsLight (borrowed_collation collator).weights
  pub none_is_variable : no_number_is_variable (borrowed_collation collator) (borrowed_options collator) ≡ true

-- texts that differ in a run of digits alone, between the same texts
pub record DifferInNumber (collator : CollatorBorrowed) (x r s y : List ℕ) : Type 0 where
  pub first : IsNumberBetween (borrowed_collation collator) x r y
  pub second : IsNumberBetween (borrowed_collation collator) x s y

-- the value of a run of digits
abbrev pub value_by : CollatorBorrowed → List ℕ → ℕ
value_by collator run = run_value (borrowed_collation collator).weights run

-- collators over the same tables, with the case level off, whose options differ in the strength alone: the second's isn't lower
pub record DifferInStrength (lower higher : CollatorBorrowed) : Type 0 where
  pub same_tables : borrowed_source higher ≡ borrowed_source lower
  pub same_options : borrowed_options higher ≡ at_strength (borrowed_options lower) (borrowed_options higher).strength
  pub case_level_is_off : (borrowed_options lower).case_level ≡ Off
  pub is_raised : is_at_least (borrowed_options higher).strength (borrowed_options lower).strength ≡ true

-- a text in an encoding, by its bytes or units
pub data EncodedText : Type 0 where
  in_utf8 : List ℕ → EncodedText
  in_utf16 : List ℕ → EncodedText
  in_latin1 : List ℕ → EncodedText

-- the characters that it decodes to
abbrev pub characters_of : EncodedText → List ℕ
characters_of (in_utf8 bytes) = utf8_chars bytes
characters_of (in_utf16 units) = utf16_chars units
characters_of (in_latin1 bytes) = latin1_chars bytes
