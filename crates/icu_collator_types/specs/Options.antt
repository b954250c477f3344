-- The options that a collator goes by, and a strength's index among the levels.
use Rattle.std.specs.Prelude.{ℕ, Bool, true, false, ◌&&◌, not, unwrap_or, nat_le}
use Rattle.icu_collator_types.specs.declared.options.Strength.{Strength}
use Rattle.icu_collator_types.specs.declared.options.Strength.TheVariants.{Primary, Secondary, Tertiary, Quaternary, Identical}
use Rattle.icu_collator_types.specs.declared.options.AlternateHandling.{AlternateHandling}
use Rattle.icu_collator_types.specs.declared.options.AlternateHandling.TheVariants.{NonIgnorable, Shifted}
use Rattle.icu_collator_types.specs.declared.options.MaxVariable.{MaxVariable}
use Rattle.icu_collator_types.specs.declared.options.MaxVariable.TheVariants.{Space, Punctuation, Symbol, Currency}
use Rattle.icu_collator_types.specs.declared.options.CaseLevel.{CaseLevel}
use Rattle.icu_collator_types.specs.declared.options.CaseLevel.TheVariants.{Off, On}
use Rattle.icu_collator_types.specs.declared.options.CollationCaseFirst.{CollationCaseFirst}
use Rattle.icu_collator_types.specs.declared.options.CollationCaseFirst.TheVariants.{False as NoCaseFirst, Lower, Upper}
use Rattle.icu_collator_types.specs.declared.options.CollationNumericOrdering.{CollationNumericOrdering}
use Rattle.icu_collator_types.specs.declared.options.CollationNumericOrdering.TheVariants.{False as NotNumeric, True as Numeric}
use Rattle.icu_collator_types.specs.declared.options.CollatorOptions.{CollatorOptions}
use Rattle.icu_collator_types.specs.declared.options.CollatorPreferences.{CollatorPreferences}
use Rattle.icu_collator_types.specs.declared.options.FileSettings.{FileSettings}
use Rattle.icu_collator_types.specs.declared.options.ResolvedCollatorOptions.{ResolvedCollatorOptions}

-- the number of a strength
abbrev pub strength_rank : Strength → ℕ
strength_rank Primary = 0
strength_rank Secondary = 1
strength_rank Tertiary = 2
strength_rank Quaternary = 3
strength_rank Identical = 7

-- whether a strength looks at a level: the level is named by the least strength that does
abbrev pub is_at_least : Strength → Strength → Bool
is_at_least strength level = nat_le (strength_rank level) (strength_rank strength)

abbrev pub is_shifted : AlternateHandling → Bool
is_shifted NonIgnorable = false
is_shifted Shifted = true

-- the index of the last variable group among the four groups of a file
abbrev pub group_index : MaxVariable → ℕ
group_index Space = 0
group_index Punctuation = 1
group_index Symbol = 2
group_index Currency = 3

abbrev pub has_case_level : CaseLevel → Bool
has_case_level Off = false
has_case_level On = true

-- whether case comes ahead of other tertiary differences
abbrev pub has_case_first : CollationCaseFirst → Bool
has_case_first NoCaseFirst = false
has_case_first Lower = true
has_case_first Upper = true

abbrev pub is_upper_first : CollationCaseFirst → Bool
is_upper_first NoCaseFirst = false
is_upper_first Lower = false
is_upper_first Upper = true

abbrev pub is_numeric : CollationNumericOrdering → Bool
is_numeric NotNumeric = false
is_numeric Numeric = true

-- whether the tertiary level counts case bits: with case first, and without a level for case
abbrev pub has_case_bits : ResolvedCollatorOptions → Bool
has_case_bits options = has_case_first options.case_first && not (has_case_level options.case_level)

-- the settings of a file that sets none
abbrev pub default_settings : FileSettings
default_settings =
    record { alternate_handling = NonIgnorable; case_first = NoCaseFirst; max_variable = Space }

-- What a caller gives wins over the locale's preferences and over the file; then come Tertiary and off.
abbrev pub resolved_options : CollatorOptions → CollatorPreferences → FileSettings → ResolvedCollatorOptions
resolved_options options preferences settings =
    record {
      strength = unwrap_or options.strength Tertiary;
      alternate_handling = unwrap_or options.alternate_handling settings.alternate_handling;
      case_first = unwrap_or preferences.case_first settings.case_first;
      max_variable = unwrap_or options.max_variable settings.max_variable;
      case_level = unwrap_or options.case_level Off;
      numeric = unwrap_or preferences.numeric_ordering NotNumeric;
    }
