-- options with a value more
use Rattle.std.proofs.Common.{◌≡◌, Bool, false, true, Option, Some, None, is_some, List, [], ◌∷◌, ◌++◌, refl}
use Rattle.std.specs.List.Sorted.{IsPermutation}
use Rattle.std.proofs.lemmas.List.Sorted.{IsPermutation-append_right, IsPermutation-middle, IsPermutation-refl, IsPermutation-trans}
use Rattle.collate_choice.specs.GivenOptions.{given_options, has_value, option_of, with_value}
use Rattle.collate_choice.specs.declared.given.GivenOptions.{GivenOptions}
use Rattle.collate_choice.specs.declared.option_words.GivenOption.{GivenOption}
use Rattle.collate_choice.specs.declared.option_words.GivenOption.TheVariants.{GivenStrength, GivenHandling, GivenVariable, GivenCaseLevel, GivenCaseFirst, GivenOrdering}

-- the same after others
behind : (front more old : List GivenOption) (option : GivenOption) → IsPermutation more (option ∷ old) → IsPermutation (front ++ more) (option ∷ (front ++ old))
behind front more old option h =
    IsPermutation-trans (front ++ more) (front ++ (option ∷ old)) (option ∷ (front ++ old)) (IsPermutation-append_right front more (option ∷ old) h) (IsPermutation-middle front option old)

-- an option that gets its value
filled : {V : Type 0} (given : V → GivenOption) (old : Option V) (value : V) (back : List GivenOption) → is_some old ≡ false → IsPermutation (option_of given (Some value) ++ back) (given value ∷ (option_of given old ++ back))
filled given None value back h = IsPermutation-refl (given value ∷ back)
filled given (Some _) value back h = absurd (let e : true ≡ false = h in cc)

filled_last : {V : Type 0} (given : V → GivenOption) (old : Option V) (value : V) → is_some old ≡ false → IsPermutation (option_of given (Some value)) (given value ∷ option_of given old)
filled_last given None value h = IsPermutation-refl (given value ∷ [])
filled_last given (Some _) value h = absurd (let e : true ≡ false = h in cc)

-- the options from each on
abbrev from_first : GivenOptions → List GivenOption
from_first given = option_of GivenCaseFirst given.case_first ++ option_of GivenOrdering given.numeric_ordering

abbrev from_level : GivenOptions → List GivenOption
from_level given = option_of GivenCaseLevel given.case_level ++ from_first given

abbrev from_variable : GivenOptions → List GivenOption
from_variable given = option_of GivenVariable given.max_variable ++ from_level given

abbrev from_handling : GivenOptions → List GivenOption
from_handling given = option_of GivenHandling given.alternate_handling ++ from_variable given

-- the options are those before, and the new one
pub with_value-given : (given : GivenOptions) (option : GivenOption) → has_value given option ≡ false → IsPermutation (given_options (with_value given option)) (option ∷ given_options given)
with_value-given given (GivenStrength value) h = filled GivenStrength given.strength value (from_handling given) h
with_value-given given (GivenHandling value) h =
    let option = GivenHandling value in
    behind (option_of GivenStrength given.strength) (option ∷ from_variable given) (from_handling given) option
    (filled GivenHandling given.alternate_handling value (from_variable given) h)
with_value-given given (GivenVariable value) h =
    let option = GivenVariable value in
    let more = option ∷ from_level given in
    behind (option_of GivenStrength given.strength) (option_of GivenHandling given.alternate_handling ++ more) (from_handling given) option
    (behind (option_of GivenHandling given.alternate_handling) more (from_variable given) option
    (filled GivenVariable given.max_variable value (from_level given) h))
with_value-given given (GivenCaseLevel value) h =
    let option = GivenCaseLevel value in
    let more = option ∷ from_first given in
    let more_variable = option_of GivenVariable given.max_variable ++ more in
    behind (option_of GivenStrength given.strength) (option_of GivenHandling given.alternate_handling ++ more_variable) (from_handling given) option
    (behind (option_of GivenHandling given.alternate_handling) more_variable (from_variable given) option
    (behind (option_of GivenVariable given.max_variable) more (from_level given) option
    (filled GivenCaseLevel given.case_level value (from_first given) h)))
with_value-given given (GivenCaseFirst value) h =
    let option = GivenCaseFirst value in
    let more = option ∷ option_of GivenOrdering given.numeric_ordering in
    let more_level = option_of GivenCaseLevel given.case_level ++ more in
    let more_variable = option_of GivenVariable given.max_variable ++ more_level in
    behind (option_of GivenStrength given.strength) (option_of GivenHandling given.alternate_handling ++ more_variable) (from_handling given) option
    (behind (option_of GivenHandling given.alternate_handling) more_variable (from_variable given) option
    (behind (option_of GivenVariable given.max_variable) more_level (from_level given) option
    (behind (option_of GivenCaseLevel given.case_level) more (from_first given) option
    (filled GivenCaseFirst given.case_first value (option_of GivenOrdering given.numeric_ordering) h))))
with_value-given given (GivenOrdering value) h =
    let option = GivenOrdering value in
    let more = option ∷ [] in
    let more_first = option_of GivenCaseFirst given.case_first ++ more in
    let more_level = option_of GivenCaseLevel given.case_level ++ more_first in
    let more_variable = option_of GivenVariable given.max_variable ++ more_level in
    behind (option_of GivenStrength given.strength) (option_of GivenHandling given.alternate_handling ++ more_variable) (from_handling given) option
    (behind (option_of GivenHandling given.alternate_handling) more_variable (from_variable given) option
    (behind (option_of GivenVariable given.max_variable) more_level (from_level given) option
    (behind (option_of GivenCaseLevel given.case_level) more_first (from_first given) option
    (behind (option_of GivenCaseFirst given.case_first) more (option_of GivenOrdering given.numeric_ordering) option
    (filled_last GivenOrdering given.numeric_ordering value h)))))
