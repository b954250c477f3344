-- The bits of settings.
use Rattle.std.specs.Prelude.{ℕ}
use Rattle.icu_collator_types.specs.declared.options.AlternateHandling.{AlternateHandling}
use Rattle.icu_collator_types.specs.declared.options.AlternateHandling.TheVariants.{NonIgnorable, Shifted}
use Rattle.icu_collator_types.specs.declared.options.CollationCaseFirst.{CollationCaseFirst}
use Rattle.icu_collator_types.specs.declared.options.CollationCaseFirst.TheVariants.{False as NoCaseFirst, Lower, Upper}
use Rattle.icu_collator_types.specs.declared.options.MaxVariable.{MaxVariable}
use Rattle.icu_collator_types.specs.declared.options.MaxVariable.TheVariants.{Space, Punctuation, Symbol, Currency}

-- of the last variable group, two bits
abbrev pub max_variable_bits : MaxVariable → ℕ
max_variable_bits Space = 0
max_variable_bits Punctuation = 1
max_variable_bits Symbol = 2
max_variable_bits Currency = 3

-- of what becomes of spaces and punctuation, one bit
abbrev pub alternate_bit : AlternateHandling → ℕ
alternate_bit NonIgnorable = 0
alternate_bit Shifted = 1

-- of which case comes first: whether one does, and whether that is upper case
abbrev pub case_first_bits : CollationCaseFirst → ℕ
case_first_bits NoCaseFirst = 0
case_first_bits Lower = 1
case_first_bits Upper = 3
