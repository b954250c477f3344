-- the options that are given, one by one
use Rattle.std.specs.Prelude.{◌≡◌, ℕ, Bool, Option, None, Some, is_some, List, [], ◌∷◌, ◌++◌, map}
use Rattle.std.specs.List.Sorted.{IsPermutation}
use Rattle.collate_choice.specs.OptionWords.{option_word}
use Rattle.collate_choice.specs.declared.given.GivenOptions.{GivenOptions}
use Rattle.collate_choice.specs.declared.option_words.GivenOption.{GivenOption}
use Rattle.collate_choice.specs.declared.option_words.GivenOption.TheVariants.{GivenStrength, GivenHandling, GivenVariable, GivenCaseLevel, GivenCaseFirst, GivenOrdering}

-- an option, where it has a value
abbrev pub option_of : {V : Type 0} → (V → GivenOption) → Option V → List GivenOption
option_of given None = []
option_of given (Some value) = given value ∷ []

-- the options that have a value
abbrev pub given_options : GivenOptions → List GivenOption
given_options given =
    option_of GivenStrength given.strength
    ++ (option_of GivenHandling given.alternate_handling
    ++ (option_of GivenVariable given.max_variable
    ++ (option_of GivenCaseLevel given.case_level
    ++ (option_of GivenCaseFirst given.case_first
    ++ option_of GivenOrdering given.numeric_ordering))))

-- in any order, one word for each option that has a value
pub record AreWordsOf (given : GivenOptions) (words : List (List ℕ)) : Type 0 where
  pub options : List GivenOption
  pub words_are : words ≡ map option_word options
  pub in_any_order : IsPermutation (given_options given) options

-- whether an option has a value already
abbrev pub has_value : GivenOptions → GivenOption → Bool
has_value given (GivenStrength _) = is_some given.strength
has_value given (GivenHandling _) = is_some given.alternate_handling
has_value given (GivenVariable _) = is_some given.max_variable
has_value given (GivenCaseLevel _) = is_some given.case_level
has_value given (GivenCaseFirst _) = is_some given.case_first
has_value given (GivenOrdering _) = is_some given.numeric_ordering

-- options with a value more
abbrev pub with_value : GivenOptions → GivenOption → GivenOptions
with_value given (GivenStrength strength) = record given { strength = Some strength }
with_value given (GivenHandling handling) = record given { alternate_handling = Some handling }
with_value given (GivenVariable variable) = record given { max_variable = Some variable }
with_value given (GivenCaseLevel level) = record given { case_level = Some level }
with_value given (GivenCaseFirst first) = record given { case_first = Some first }
with_value given (GivenOrdering ordering) = record given { numeric_ordering = Some ordering }
