-- Runs of digits in a text: when they are read as numbers, and what their values are.
use Rattle.std.specs.Prelude.{◌≡◌, ℕ, ◌*◌, ◌/◌, ◌^◌, ◌<◌, ◌≤◌, Bool, true, false, not, ◌==◌, ◌&&◌, ◌||◌, leb, get_or, List, [], ◌∷◌, length, filter_map, Some, None}
use Rattle.std.specs.List.{list_all, list_any}
use Rattle.std.specs.Option.{is_some}
use Rattle.icu_normalizer_core.specs.Canonical.{decomposed}
use Rattle.icu_collator_types.specs.declared.elements.Element.{Element}
use Rattle.icu_collator_types.specs.declared.options.ResolvedCollatorOptions.{ResolvedCollatorOptions}
use Rattle.icu_collator_types.specs.Options.{is_shifted, group_index}
use Rattle.icu_collator_core.specs.Collation.{Collation, with_lead, reordered_lead}
use Rattle.icu_collator_core.specs.Defaults.{special_primary}
use Rattle.icu_collator_core.specs.Numbers.{significant, value_of}
use Rattle.icu_collator_core.specs.WeightRules.{is_letter_lead}
use Rattle.icu_collator_core.specs.Weights.{Weights}

-- a character with a value as a digit
abbrev pub is_digit : Weights → ℕ → Bool
is_digit weights c = is_some (weights.digit c)

abbrev pub holds_digit : Weights → List ℕ → Bool
holds_digit weights text = list_any (is_digit weights) text

abbrev pub begins_with_digit : Weights → List ℕ → Bool
begins_with_digit weights [] = false
begins_with_digit weights (c ∷ cs) = is_digit weights c

abbrev pub ends_with_digit : Weights → List ℕ → Bool
ends_with_digit weights [] = false
ends_with_digit weights (c ∷ []) = is_digit weights c
ends_with_digit weights (c ∷ d ∷ ds) = ends_with_digit weights (d ∷ ds)

-- the values of the digits of a run
abbrev pub digits_of : Weights → List ℕ → List ℕ
digits_of weights run = filter_map weights.digit run

-- the value of a run of digits
abbrev pub run_value : Weights → List ℕ → ℕ
run_value weights run = value_of (digits_of weights run)

-- one digit or more, and nothing else; at most 254 digits count, those from the first nonzero one on
pub record IsRunOfDigits (weights : Weights) (run : List ℕ) : Type 0 where
  pub digits : list_all (is_digit weights) run ≡ true
  pub filled : 0 < length run
  pub short : length (significant (digits_of weights run)) ≤ 254

-- a run of digits between two texts, neither of which has a digit next to it once it is decomposed
pub record IsNumberBetween (collation : Collation) (x run y : List ℕ) : Type 0 where
  pub number : IsRunOfDigits collation.weights run
  pub before : ends_with_digit collation.weights (decomposed collation.canonical x) ≡ false
  pub behind : begins_with_digit collation.weights (decomposed collation.canonical y) ≡ false

-- Whether no number is variable: nothing is, or the last variable group ends at the lead of numbers or below it.
abbrev pub no_number_is_variable : Collation → ResolvedCollatorOptions → Bool
no_number_is_variable collation options =
    not (is_shifted options.alternate_handling)
    || leb (get_or collation.groups (group_index options.max_variable) 0) (collation.weights.numeric_lead * 256)

-- Reordering gives the primaries of numbers one lead, and keeps their rest.
abbrev pub AreNumbersTogether : Collation → Type 0
AreNumbersTogether collation =
    (p : ℕ) → p / 2 ^ 24 ≡ collation.weights.numeric_lead → collation.reordered p ≡ with_lead (reordered_lead collation) p

-- What collation data must keep for a digit to be read as part of a number wherever it stands, and to change nothing
-- that is read before or after the number, but for a dot above directly before it.
pub record AreDigitsAlone (collation : Collation) : Type 0 where
  pub lead : is_letter_lead collation.weights.numeric_lead ≡ true
  pub values : (c d : ℕ) → collation.weights.digit c ≡ Some d → leb d 9 ≡ true
  -- a digit is a starter, unmapped, and not special
  pub starters : (c : ℕ) → is_digit collation.weights c ≡ true → collation.canonical.class c ≡ 0
  pub own : (c : ℕ) → is_digit collation.weights c ≡ true → collation.canonical.full c ≡ c ∷ []
  pub plain : (c : ℕ) → is_digit collation.weights c ≡ true → special_primary c ≡ None
  -- a recorded text that holds a digit is that digit alone, and no recorded prefix holds one
  pub alone : (prefix text : List ℕ) → 1 < length text → holds_digit collation.weights text ≡ true
      → collation.weights.recorded prefix text ≡ None
  pub prefixes : (prefix text : List ℕ) → holds_digit collation.weights prefix ≡ true
      → collation.weights.recorded prefix text ≡ None

-- the same where no dot above directly before a number is dropped: a grave and an acute are marks, a tilde may be a digit
pub record AreDigitsApart (collation : Collation) : Type 0 where
  pub digits : AreDigitsAlone collation
  pub accents : (not collation.weights.dot_above || not (is_digit collation.weights 0x303)) ≡ true

-- elements without a primary weight
abbrev pub are_light : List Element → Bool
are_light es = list_all (λ e. e.primary == 0) es

-- a dot above is recorded alone and after no prefix, and without a primary weight
pub record IsDotLight (weights : Weights) : Type 0 where
  pub elements : List Element
  pub is : weights.recorded [] (0x307 ∷ []) ≡ Some elements
  pub light : are_light elements ≡ true
  pub unprefixed : (c : ℕ) (cs : List ℕ) → weights.recorded (c ∷ cs) (0x307 ∷ []) ≡ None

-- a dot above that may be dropped before a digit has no primary weight
abbrev pub AreDotsLight : Weights → Type 0
AreDotsLight weights = (weights.dot_above && is_digit weights 0x303) ≡ true → IsDotLight weights
