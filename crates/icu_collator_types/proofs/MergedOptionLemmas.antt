-- What options with notes are, once the caller's are merged over the defaults.
use Rattle.std.specs.Prelude.{◌≡◌, false, Option, Some, None, option_map, unwrap_or, refl}
use Rattle.icu_collator_types.specs.declared.options.CaseLevel.{CaseLevel}
use Rattle.icu_collator_types.specs.declared.options.CaseLevel.TheVariants.{Off, On}
use Rattle.icu_collator_types.specs.declared.options.CollationNumericOrdering.{CollationNumericOrdering}
use Rattle.icu_collator_types.specs.declared.options.CollationNumericOrdering.TheVariants.{False as NotNumeric, True as Numeric}
use Rattle.icu_collator_types.specs.declared.options.bit_field.Noted.{Noted}
use Rattle.icu_collator_types.specs.Options.{has_case_level, is_numeric}
use Rattle.icu_collator_types.specs.NotedOptions.{given_or, own_or, not_given, case_level_by, numeric_by}

-- what is given wins, else the default
pub merged_value : {T : Type 0} (given : Option T) (first : T) (other : Noted T)
    → (own_or (given_or given first) other).value ≡ unwrap_or given other.value
merged_value (Some value) first other = refl
merged_value None first other = refl

-- the case level that is given wins, else there is none
pub merged_case_level : (given : Option CaseLevel)
    → case_level_by (own_or (given_or (option_map has_case_level given) false) (not_given false)).value ≡ unwrap_or given Off
merged_case_level (Some Off) = refl
merged_case_level (Some On) = refl
merged_case_level None = refl

-- the numeric ordering that is given wins, else there is none
pub merged_numeric : (given : Option CollationNumericOrdering)
    → numeric_by (own_or (given_or (option_map is_numeric given) false) (not_given false)).value ≡ unwrap_or given NotNumeric
merged_numeric (Some NotNumeric) = refl
merged_numeric (Some Numeric) = refl
merged_numeric None = refl
