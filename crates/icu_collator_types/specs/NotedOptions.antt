-- Options with notes, as they are merged: each option has a value, and whether it was given.
use Rattle.std.specs.Prelude.{◌≡◌, ℕ, Bool, true, false, ◌&&◌, not, Option, Some, None, option_map, [], if◌then◌else◌}
use Rattle.icu_collator_types.specs.declared.options.Strength.{Strength}
use Rattle.icu_collator_types.specs.declared.options.Strength.TheVariants.{Primary, Tertiary}
use Rattle.icu_collator_types.specs.declared.options.AlternateHandling.{AlternateHandling}
use Rattle.icu_collator_types.specs.declared.options.AlternateHandling.TheVariants.{NonIgnorable}
use Rattle.icu_collator_types.specs.declared.options.MaxVariable.{MaxVariable}
use Rattle.icu_collator_types.specs.declared.options.MaxVariable.TheVariants.{Space}
use Rattle.icu_collator_types.specs.declared.options.CaseLevel.{CaseLevel}
use Rattle.icu_collator_types.specs.declared.options.CaseLevel.TheVariants.{Off, On}
use Rattle.icu_collator_types.specs.declared.options.CollationCaseFirst.{CollationCaseFirst}
use Rattle.icu_collator_types.specs.declared.options.CollationCaseFirst.TheVariants.{False as NoCaseFirst}
use Rattle.icu_collator_types.specs.declared.options.CollationNumericOrdering.{CollationNumericOrdering}
use Rattle.icu_collator_types.specs.declared.options.CollationNumericOrdering.TheVariants.{False as NotNumeric, True as Numeric}
use Rattle.icu_collator_types.specs.declared.options.CollatorOptions.{CollatorOptions}
use Rattle.icu_collator_types.specs.declared.options.CollatorPreferences.{CollatorPreferences}
use Rattle.icu_collator_types.specs.declared.options.ResolvedCollatorOptions.{ResolvedCollatorOptions}
use Rattle.icu_collator_types.specs.declared.options.bit_field.Noted.{Noted}
use Rattle.icu_collator_types.specs.Options.{is_at_least, has_case_level, has_case_first}

-- the options of a collator, each with its note
pub record NotedOptions : Type 0 where
  pub strength : Noted Strength
  pub max_variable : Noted MaxVariable
  pub alternate_handling : Noted AlternateHandling
  pub case_level : Noted Bool
  pub case_first : Noted CollationCaseFirst
  pub backward_second_level : Noted Bool
  pub numeric : Noted Bool

-- a value that nobody gave
abbrev pub not_given : {T : Type 0} → T → Noted T
not_given value = record { value = value; is_given = false }

-- an option as a setter leaves it: what is given, noted as given; else its first value, with no note
abbrev pub given_or : {T : Type 0} → Option T → T → Noted T
given_or (Some value) first = record { value = value; is_given = true }
given_or None first = not_given first

-- an option without a note takes the other's value and note
abbrev pub own_or : {T : Type 0} → Noted T → Noted T → Noted T
own_or own other = if own.is_given then own else other

-- Tertiary, else first values and false; nothing is noted
abbrev pub default_options : NotedOptions
default_options =
    record {
      strength = not_given Tertiary;
      max_variable = not_given Space;
      alternate_handling = not_given NonIgnorable;
      case_level = not_given false;
      case_first = not_given NoCaseFirst;
      backward_second_level = not_given false;
      numeric = not_given false;
    }

-- each option without a note is the other's
abbrev pub with_defaults : NotedOptions → NotedOptions → NotedOptions
with_defaults own other =
    record {
      strength = own_or own.strength other.strength;
      max_variable = own_or own.max_variable other.max_variable;
      alternate_handling = own_or own.alternate_handling other.alternate_handling;
      case_level = own_or own.case_level other.case_level;
      case_first = own_or own.case_first other.case_first;
      backward_second_level = own_or own.backward_second_level other.backward_second_level;
      numeric = own_or own.numeric other.numeric;
    }

-- The bits of a tertiary weight that count: none up to Secondary. The bits of case are among them
-- with case first, and without a level for case.
abbrev pub tertiary_mask_of : NotedOptions → Option ℕ
tertiary_mask_of options =
    if is_at_least options.strength.value Tertiary then
    (if has_case_first options.case_first.value && not options.case_level.value then Some 0xFF3F else Some 0x3F3F)
    else None

-- a caller's options: those that it gives are noted, and the others have their first values
abbrev pub noted_options : CollatorOptions → NotedOptions
noted_options options =
    record default_options {
      strength = given_or options.strength Primary;
      max_variable = given_or options.max_variable Space;
      alternate_handling = given_or options.alternate_handling NonIgnorable;
      case_level = given_or (option_map has_case_level options.case_level) false;
    }

-- whether case has a level of its own, by name
abbrev pub case_level_by : Bool → CaseLevel
case_level_by is_on = if is_on then On else Off

-- whether a run of digits is compared by its value, by name
abbrev pub numeric_by : Bool → CollationNumericOrdering
numeric_by is_on = if is_on then Numeric else NotNumeric

-- the values of options with notes; backward ordering of accents is not among the resolved options
abbrev pub values_of : NotedOptions → ResolvedCollatorOptions
values_of options =
    record {
      strength = options.strength.value;
      alternate_handling = options.alternate_handling.value;
      case_first = options.case_first.value;
      max_variable = options.max_variable.value;
      case_level = case_level_by options.case_level.value;
      numeric = numeric_by options.numeric.value;
    }

-- what a caller asks for to get the resolved options again
abbrev pub options_for : ResolvedCollatorOptions → CollatorOptions
options_for resolved =
    record {
      strength = Some resolved.strength;
      alternate_handling = Some resolved.alternate_handling;
      max_variable = Some resolved.max_variable;
      case_level = Some resolved.case_level;
    }

-- the preferences by which the resolved options come out again, for no locale and no type
pub record ArePreferencesFor (resolved : ResolvedCollatorOptions) (preferences : CollatorPreferences) : Type 0 where
  pub locale : preferences.locale.now ≡ []
  pub collation_type : preferences.collation_type ≡ None
  pub case_first : preferences.case_first ≡ Some resolved.case_first
  pub numeric_ordering : preferences.numeric_ordering ≡ Some resolved.numeric
