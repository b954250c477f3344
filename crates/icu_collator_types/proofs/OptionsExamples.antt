-- What options resolve to, at values.
use Rattle.std.specs.Prelude.{◌≡◌, true, false, Some, None, refl}
use Rattle.icu_collator_types.specs.declared.options.Strength.TheVariants.{Primary, Secondary, Tertiary, Quaternary, Identical}
use Rattle.icu_collator_types.specs.declared.options.AlternateHandling.TheVariants.{NonIgnorable, Shifted}
use Rattle.icu_collator_types.specs.declared.options.MaxVariable.TheVariants.{Space, Punctuation, Currency}
use Rattle.icu_collator_types.specs.declared.options.CaseLevel.TheVariants.{Off, On}
use Rattle.icu_collator_types.specs.declared.options.CollationCaseFirst.TheVariants.{False as NoCaseFirst, Lower, Upper}
use Rattle.icu_collator_types.specs.declared.options.CollationNumericOrdering.TheVariants.{False as NotNumeric, True as Numeric}
use Rattle.icu_collator_types.specs.declared.options.CollatorOptions.{CollatorOptions}
use Rattle.icu_collator_types.specs.declared.options.CollatorPreferences.{CollatorPreferences}
use Rattle.icu_collator_types.specs.declared.options.FileSettings.{FileSettings}
use Rattle.icu_collator_types.specs.Options.{resolved_options, default_settings, is_at_least, has_case_bits, group_index}

abbrev no_options : CollatorOptions
no_options =
    record { strength = None; alternate_handling = None; max_variable = None; case_level = None }

abbrev some_options : CollatorOptions
some_options =
    record {
      strength = Some Identical;
      alternate_handling = Some NonIgnorable;
      max_variable = Some Punctuation;
      case_level = Some On;
    }

abbrev shifted_settings : FileSettings
shifted_settings = record { alternate_handling = Shifted; case_first = Lower; max_variable = Currency }

abbrev no_preferences : CollatorPreferences → CollatorPreferences
no_preferences p = record p { case_first = None; numeric_ordering = None }

abbrev some_preferences : CollatorPreferences → CollatorPreferences
some_preferences p = record p { case_first = Some Upper; numeric_ordering = Some Numeric }

-- nothing is asked for, and the file sets nothing
pub all_defaults : (p : CollatorPreferences) →
    resolved_options no_options (no_preferences p) default_settings
    ≡ record {
      strength = Tertiary;
      alternate_handling = NonIgnorable;
      case_first = NoCaseFirst;
      max_variable = Space;
      case_level = Off;
      numeric = NotNumeric;
    }
all_defaults p = refl

-- nothing is asked for: the file's settings hold
pub file_alone : (p : CollatorPreferences) →
    resolved_options no_options (no_preferences p) shifted_settings
    ≡ record {
      strength = Tertiary;
      alternate_handling = Shifted;
      case_first = Lower;
      max_variable = Currency;
      case_level = Off;
      numeric = NotNumeric;
    }
file_alone p = refl

-- what is asked for wins over the file
pub asked_first : (p : CollatorPreferences) →
    resolved_options some_options (some_preferences p) shifted_settings
    ≡ record {
      strength = Identical;
      alternate_handling = NonIgnorable;
      case_first = Upper;
      max_variable = Punctuation;
      case_level = On;
      numeric = Numeric;
    }
asked_first p = refl

-- an equal strength is enough, and Identical looks at everything
pub tertiary_has_accents : is_at_least Tertiary Secondary ≡ true
tertiary_has_accents = refl

pub secondary_has_accents : is_at_least Secondary Secondary ≡ true
secondary_has_accents = refl

pub primary_has_no_accents : is_at_least Primary Secondary ≡ false
primary_has_no_accents = refl

pub identical_is_above_quaternary : is_at_least Identical Quaternary ≡ true
identical_is_above_quaternary = refl

-- a case level takes the case bits out of the tertiary level
pub case_bits_without_case_level : (p : CollatorPreferences) →
    has_case_bits (resolved_options no_options (some_preferences p) default_settings) ≡ true
case_bits_without_case_level p = refl

pub no_case_bits_with_case_level : (p : CollatorPreferences) →
    has_case_bits (resolved_options some_options (some_preferences p) default_settings) ≡ false
no_case_bits_with_case_level p = refl

pub last_group : group_index Currency ≡ 3
last_group = refl
