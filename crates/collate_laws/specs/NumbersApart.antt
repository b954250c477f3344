-- What a file must say of digits for a number to be read alike wherever it stands.
use Rattle.std.specs.Prelude.{◌≡◌, Bool, false, ltb, ◌&&◌, List, length}
use Rattle.std.specs.List.{list_any}
use Rattle.icu_collator.specs.NumbersInTexts.{holds_digit, is_digit}
use Rattle.collate_lines.specs.Record.{Record, weights}
use Rattle.collate_rules.specs.Meaning.{dot_above_in, set_to, weights_of}

-- whether a line records several characters together, a digit among them
abbrev pub joins_digit : List Record → Record → Bool
joins_digit records (weights layer prefix text es) = ltb 1 (length text) && holds_digit (weights_of records) text
joins_digit records _ = false

-- recorded texts of several characters hold no digit
abbrev pub JoinNoDigits : List Record → Type 0
JoinNoDigits records = list_any (joins_digit records) records ≡ false

-- The same. And where a dot above is dropped before accents, a tilde (U+0303) is no digit: otherwise a dot above would be
-- dropped before a number that begins with it, and stay before one of the same value that doesn't.
pub record HaveNumbersApart (records : List Record) : Type 0 where
  pub alone : JoinNoDigits records
  pub accents : (set_to dot_above_in false records && is_digit (weights_of records) 0x303) ≡ false
