-- The elements that a text can have: single elements, recorded or default, and whole numbers in order.
use Rattle.std.specs.Prelude.{◌≡◌, ℕ, ◌<◌, ◌≤◌, Bool, true, List, [], ◌∷◌, ◌++◌, length, All}
use Rattle.std.specs.Char.{IsScalar}
use Rattle.icu_collator_types.specs.declared.elements.Element.{Element}
use Rattle.icu_collator_core.specs.Weights.{Weights}
use Rattle.icu_collator_core.specs.Defaults.{primary_element, default_primary}
use Rattle.icu_collator_core.specs.Numbers.{number_elements}
use Rattle.icu_collator_core.specs.WeightRules.{IsRecorded}

-- an element of a record, or what a character is by itself: special, of a range, a jamo, or implicit
pub data IsSingle (weights : Weights) : Element → Type 0 where
  of_record : (e : Element) → IsRecorded weights e → IsSingle weights e
  by_default : (c : ℕ) → IsScalar c → IsSingle weights (primary_element (default_primary weights c))

-- one digit or more
pub record AreDigits (digits : List ℕ) : Type 0 where
  pub filled : 0 < length digits
  pub up_to_nine : All (λ d. d ≤ 9) digits

-- single elements and, where numeric ordering is on, whole numbers, one after another
pub data IsSoundSequence (weights : Weights) (numeric : Bool) : List Element → Type 0 where
  nothing : IsSoundSequence weights numeric []
  single : (e : Element) (es : List Element) → IsSingle weights e
      → IsSoundSequence weights numeric es → IsSoundSequence weights numeric (e ∷ es)
  number : (digits : List ℕ) (es : List Element) → numeric ≡ true → AreDigits digits
      → IsSoundSequence weights numeric es
      → IsSoundSequence weights numeric (number_elements weights.numeric_lead digits ++ es)
