-- Lists of elements of 64 bits.
use Rattle.std.specs.Prelude.{◌≡◌, ℕ, List, ◌++◌, map}
use Rattle.icu_collator_types.specs.declared.elements.Element.{Element}
use Rattle.icu_collator_core.specs.Pools.{element_of}

-- elements of 64 bits, each by its weights
abbrev pub unpacked : List ℕ → List Element
unpacked items = map element_of items

-- these elements stand after those that were there
abbrev pub AddsElements : List ℕ → List Element → List ℕ → Type 0
AddsElements old elements new = unpacked new ≡ unpacked old ++ elements
