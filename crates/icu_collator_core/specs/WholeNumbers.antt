-- Lists of digits that are read whole, as one number.
use Rattle.std.specs.Prelude.{ℕ, ◌<◌, ◌≤◌, List, length, map, All}
use Rattle.icu_collator_types.specs.declared.elements.Element.{Element}
use Rattle.icu_collator_core.specs.Numbers.{significant}

-- one digit or more, of which at most 254 count: those from the first nonzero one on
pub record IsWholeNumber (digits : List ℕ) : Type 0 where
  pub below_ten : All (λ d. d < 10) digits
  pub filled : 0 < length digits
  pub short : length (significant digits) ≤ 254

abbrev pub primaries_of : List Element → List ℕ
primaries_of elements = map (λ e. e.primary) elements
