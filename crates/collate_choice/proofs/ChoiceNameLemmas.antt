-- the names of options, each of which is given once at most
use Rattle.std.proofs.Common.{◌≡◌, ℕ, ◌+◌, ◌≤◌, Bool, true, false, cond, Option, Some, None, is_some, List, [], ◌∷◌, ◌++◌, codes, bytes_eq, eqb, map, refl, ap, ◌∙◌, arith}
use Rattle.std.specs.List.{before_first, count_by}
use Rattle.std.proofs.lemmas.List.Sums.{sum_by-append, sum_by-cons}
use Rattle.icu_collator_types.specs.declared.options.AlternateHandling.{AlternateHandling}
use Rattle.icu_collator_types.specs.declared.options.AlternateHandling.TheVariants.{NonIgnorable, Shifted}
use Rattle.icu_collator_types.specs.declared.options.CaseLevel.{CaseLevel}
use Rattle.icu_collator_types.specs.declared.options.CaseLevel.TheVariants.{Off, On}
use Rattle.icu_collator_types.specs.declared.options.CollationCaseFirst.{CollationCaseFirst}
use Rattle.icu_collator_types.specs.declared.options.CollationCaseFirst.TheVariants.{False as NoCaseFirst, Lower, Upper}
use Rattle.icu_collator_types.specs.declared.options.CollationNumericOrdering.{CollationNumericOrdering}
use Rattle.icu_collator_types.specs.declared.options.CollationNumericOrdering.TheVariants.{False as NotNumeric, True as IsNumeric}
use Rattle.icu_collator_types.specs.declared.options.MaxVariable.{MaxVariable}
use Rattle.icu_collator_types.specs.declared.options.MaxVariable.TheVariants.{Space, Punctuation, Symbol, Currency}
use Rattle.icu_collator_types.specs.declared.options.Strength.{Strength}
use Rattle.icu_collator_types.specs.declared.options.Strength.TheVariants.{Primary, Secondary, Tertiary, Quaternary, Identical}
use Rattle.collate_choice.specs.GivenOptions.{given_options, has_value, option_of}
use Rattle.collate_choice.specs.OptionWords.{option_word}
use Rattle.collate_choice.specs.declared.given.GivenOptions.{GivenOptions}
use Rattle.collate_choice.specs.declared.option_words.GivenOption.{GivenOption}
use Rattle.collate_choice.specs.declared.option_words.GivenOption.TheVariants.{GivenStrength, GivenHandling, GivenVariable, GivenCaseLevel, GivenCaseFirst, GivenOrdering}

-- the name of an option
abbrev pub option_name : GivenOption → List ℕ
option_name (GivenStrength _) = codes "strength"
option_name (GivenHandling _) = codes "alternate"
option_name (GivenVariable _) = codes "maxvariable"
option_name (GivenCaseLevel _) = codes "caselevel"
option_name (GivenCaseFirst _) = codes "casefirst"
option_name (GivenOrdering _) = codes "numeric"

-- what stands before `=`
pub name_in : List ℕ → List ℕ
name_in word = before_first (λ byte. eqb byte 61) word

-- whether a word has the name of an option
abbrev pub is_word_for : GivenOption → List ℕ → Bool
is_word_for option word = bytes_eq (name_in word) (option_name option)

-- whether an option has the name of another
abbrev pub is_same_option : GivenOption → GivenOption → Bool
is_same_option option other = bytes_eq (option_name other) (option_name option)

pub name_in-word : (option : GivenOption) → name_in (option_word option) ≡ option_name option
unfolding name_in
name_in-word (GivenStrength Primary) = refl
name_in-word (GivenStrength Secondary) = refl
name_in-word (GivenStrength Tertiary) = refl
name_in-word (GivenStrength Quaternary) = refl
name_in-word (GivenStrength Identical) = refl
name_in-word (GivenHandling NonIgnorable) = refl
name_in-word (GivenHandling Shifted) = refl
name_in-word (GivenVariable Space) = refl
name_in-word (GivenVariable Punctuation) = refl
name_in-word (GivenVariable Symbol) = refl
name_in-word (GivenVariable Currency) = refl
name_in-word (GivenCaseLevel Off) = refl
name_in-word (GivenCaseLevel On) = refl
name_in-word (GivenCaseFirst NoCaseFirst) = refl
name_in-word (GivenCaseFirst Lower) = refl
name_in-word (GivenCaseFirst Upper) = refl
name_in-word (GivenOrdering NotNumeric) = refl
name_in-word (GivenOrdering IsNumeric) = refl

-- the words of options count as the options do
pub count-words : (option : GivenOption) (options : List GivenOption) → count_by (is_word_for option) (map option_word options) ≡ count_by (is_same_option option) options
count-words option [] = refl
count-words option (other ∷ others) =
    let same : is_word_for option (option_word other) ≡ is_same_option option other = ap (λ (name : List ℕ). bytes_eq name (option_name option)) (name_in-word other) in
    let of_word : List ℕ → ℕ = λ word. cond (is_word_for option word) 1 0 in
    let of_option : GivenOption → ℕ = λ one. cond (is_same_option option one) 1 0 in
    let first : of_word (option_word other) ≡ of_option other = ap (λ (passes : Bool). let n : ℕ = cond passes 1 0 in n) same in
    omega (arith, first, sum_by-cons of_word (option_word other) (map option_word others), sum_by-cons of_option other others, count-words option others)

-- how often a test passes at an option whose values it all passes, or none
abbrev count_at : {V : Type 0} → Bool → Option V → ℕ
count_at passes None = 0
count_at passes (Some _) = cond passes 1 0

count_at-false : {V : Type 0} (value : Option V) → count_at false value ≡ 0
count_at-false None = refl
count_at-false (Some _) = refl

count_at-most : {V : Type 0} (value : Option V) → count_at true value ≤ 1
count_at-most None = omega arith
count_at-most (Some _) = omega arith

count_at-some : {V : Type 0} (value : Option V) → is_some value ≡ true → count_at true value ≡ 1
count_at-some None h = absurd (let e : false ≡ true = h in cc)
count_at-some (Some _) h = refl

module _ (test : GivenOption → Bool) where
  count-of : {V : Type 0} (given : V → GivenOption) (passes : Bool) → ((value : V) → test (given value) ≡ passes) → (value : Option V) → count_by test (option_of given value) ≡ count_at passes value
  count-of given passes each None = refl
  count-of given passes each (Some value) = rw (each value) (omega arith)

  -- of each option a test passes all values, or none
  count-options : (a b c d e f : Bool)
      → ((value : Strength) → test (GivenStrength value) ≡ a) → ((value : AlternateHandling) → test (GivenHandling value) ≡ b)
      → ((value : MaxVariable) → test (GivenVariable value) ≡ c) → ((value : CaseLevel) → test (GivenCaseLevel value) ≡ d)
      → ((value : CollationCaseFirst) → test (GivenCaseFirst value) ≡ e) → ((value : CollationNumericOrdering) → test (GivenOrdering value) ≡ f)
      → (given : GivenOptions)
      → count_by test (given_options given) ≡ count_at a given.strength + (count_at b given.alternate_handling + (count_at c given.max_variable + (count_at d given.case_level + (count_at e given.case_first + count_at f given.numeric_ordering))))
  count-options a b c d e f ha hb hc hd he hf given =
      let count : GivenOption → ℕ = λ option. cond (test option) 1 0 in
      let ordering = option_of GivenOrdering given.numeric_ordering in
      let first = option_of GivenCaseFirst given.case_first ++ ordering in
      let level = option_of GivenCaseLevel given.case_level ++ first in
      let variable = option_of GivenVariable given.max_variable ++ level in
      let handling = option_of GivenHandling given.alternate_handling ++ variable in
      omega (
        arith,
        sum_by-append count (option_of GivenStrength given.strength) handling,
        sum_by-append count (option_of GivenHandling given.alternate_handling) variable,
        sum_by-append count (option_of GivenVariable given.max_variable) level,
        sum_by-append count (option_of GivenCaseLevel given.case_level) first,
        sum_by-append count (option_of GivenCaseFirst given.case_first) ordering,
        count-of GivenStrength a ha given.strength,
        count-of GivenHandling b hb given.alternate_handling,
        count-of GivenVariable c hc given.max_variable,
        count-of GivenCaseLevel d hd given.case_level,
        count-of GivenCaseFirst e he given.case_first,
        count-of GivenOrdering f hf given.numeric_ordering,
      )

-- how often options have the name of one: once where it has a value
abbrev value_count : GivenOptions → GivenOption → ℕ
value_count given (GivenStrength _) = count_at true given.strength
value_count given (GivenHandling _) = count_at true given.alternate_handling
value_count given (GivenVariable _) = count_at true given.max_variable
value_count given (GivenCaseLevel _) = count_at true given.case_level
value_count given (GivenCaseFirst _) = count_at true given.case_first
value_count given (GivenOrdering _) = count_at true given.numeric_ordering

module _ (given : GivenOptions) where
  absent : (count_at false given.strength ≡ 0) × (count_at false given.alternate_handling ≡ 0) × (count_at false given.max_variable ≡ 0)
      × (count_at false given.case_level ≡ 0) × (count_at false given.case_first ≡ 0) × (count_at false given.numeric_ordering ≡ 0)
  absent = (
    count_at-false given.strength,
    count_at-false given.alternate_handling,
    count_at-false given.max_variable,
    count_at-false given.case_level,
    count_at-false given.case_first,
    count_at-false given.numeric_ordering,
  )

  count-same : (option : GivenOption) → count_by (is_same_option option) (given_options given) ≡ value_count given option
  count-same (GivenStrength v) = omega (arith, absent, count-options (is_same_option (GivenStrength v)) true false false false false false (λ _. refl) (λ _. refl) (λ _. refl) (λ _. refl) (λ _. refl) (λ _. refl) given)
  count-same (GivenHandling v) = omega (arith, absent, count-options (is_same_option (GivenHandling v)) false true false false false false (λ _. refl) (λ _. refl) (λ _. refl) (λ _. refl) (λ _. refl) (λ _. refl) given)
  count-same (GivenVariable v) = omega (arith, absent, count-options (is_same_option (GivenVariable v)) false false true false false false (λ _. refl) (λ _. refl) (λ _. refl) (λ _. refl) (λ _. refl) (λ _. refl) given)
  count-same (GivenCaseLevel v) = omega (arith, absent, count-options (is_same_option (GivenCaseLevel v)) false false false true false false (λ _. refl) (λ _. refl) (λ _. refl) (λ _. refl) (λ _. refl) (λ _. refl) given)
  count-same (GivenCaseFirst v) = omega (arith, absent, count-options (is_same_option (GivenCaseFirst v)) false false false false true false (λ _. refl) (λ _. refl) (λ _. refl) (λ _. refl) (λ _. refl) (λ _. refl) given)
  count-same (GivenOrdering v) = omega (arith, absent, count-options (is_same_option (GivenOrdering v)) false false false false false true (λ _. refl) (λ _. refl) (λ _. refl) (λ _. refl) (λ _. refl) (λ _. refl) given)

  value_count-most : (option : GivenOption) → value_count given option ≤ 1
  value_count-most (GivenStrength _) = count_at-most given.strength
  value_count-most (GivenHandling _) = count_at-most given.alternate_handling
  value_count-most (GivenVariable _) = count_at-most given.max_variable
  value_count-most (GivenCaseLevel _) = count_at-most given.case_level
  value_count-most (GivenCaseFirst _) = count_at-most given.case_first
  value_count-most (GivenOrdering _) = count_at-most given.numeric_ordering

  value_count-some : (option : GivenOption) → has_value given option ≡ true → value_count given option ≡ 1
  value_count-some (GivenStrength _) h = count_at-some given.strength h
  value_count-some (GivenHandling _) h = count_at-some given.alternate_handling h
  value_count-some (GivenVariable _) h = count_at-some given.max_variable h
  value_count-some (GivenCaseLevel _) h = count_at-some given.case_level h
  value_count-some (GivenCaseFirst _) h = count_at-some given.case_first h
  value_count-some (GivenOrdering _) h = count_at-some given.numeric_ordering h

  -- no option is given twice
  pub one-at-most : (option : GivenOption) → count_by (is_same_option option) (given_options given) ≤ 1
  one-at-most option = omega (arith, count-same option, value_count-most option)

  -- one that has a value is given
  pub one-given : (option : GivenOption) → has_value given option ≡ true → count_by (is_same_option option) (given_options given) ≡ 1
  one-given option h = count-same option ∙ value_count-some option h
