-- What collation data say of characters and texts, apart from how they are stored.
use Rattle.std.specs.Prelude.{ℕ, Bool, List, Option}
use Rattle.icu_collator_types.specs.declared.elements.Element.{Element}

-- a range of characters whose primaries follow each other
pub record Range : Type 0 where
  pub first : ℕ
  pub last : ℕ
  -- the primary of the first character
  pub primary : ℕ
  -- how far the primaries of neighbours lie apart
  pub step : ℕ

pub record Weights : Type 0 where
  -- the recorded elements of a text after a prefix (both in reading order), or none
  pub recorded : List ℕ → List ℕ → Option (List Element)
  -- the value of a digit
  pub digit : ℕ → Option ℕ
  -- the primary of a character in a range
  pub ranged_primary : ℕ → Option ℕ
  -- whether a primary's lead byte is left out of a key after a primary with the same lead
  pub is_compressible : ℕ → Bool
  -- the lead byte of numbers
  pub numeric_lead : ℕ
  -- whether a dot above directly before a grave, an acute or a tilde is dropped
  pub dot_above : Bool
