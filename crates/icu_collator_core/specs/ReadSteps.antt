-- The reading of a list character by character, in the order of the elements' definition.
use Rattle.std.specs.Prelude.{◌≡◌, ℕ, Bool, List, ◌∷◌, ◌++◌, length, drop, Option, Some, None}
use Rattle.icu_normalizer_core.specs.Canonical.{Canonical}
use Rattle.icu_collator_types.specs.declared.elements.Element.{Element}
use Rattle.icu_collator_core.specs.AlikeLists.{AreAlike}
use Rattle.icu_collator_core.specs.ElementLists.{AddsElements}
use Rattle.icu_collator_core.specs.Elements.{Placed, Reading, elements_within, placed, prefix_match, text_reading}
use Rattle.icu_collator_core.specs.MovedMarks.{KnowNoMarksBefore}
use Rattle.icu_collator_core.specs.ReadTexts.{characters_before}
use Rattle.icu_collator_core.specs.Weights.{Weights}

-- weights whose numbers have this lead byte; their own, where none is given
abbrev pub weights_for : Option ℕ → Weights → Weights
weights_for numeric weights =
    record {
      recorded = weights.recorded;
      digit = weights.digit;
      ranged_primary = weights.ranged_primary;
      is_compressible = weights.is_compressible;
      numeric_lead = elim numeric [ Some lead ↦ lead | None ↦ weights.numeric_lead ];
      dot_above = weights.dot_above;
    }

-- the elements of a list from an index on
abbrev pub elements_from : Canonical → Weights → Bool → List ℕ → ℕ → List Element
elements_from canonical weights numeric list index =
    elements_within (length (drop index (placed list))) canonical weights numeric (drop index (placed list))

-- a character at an index of a list, with what stands before it
abbrev pub placed_at : List ℕ → ℕ → ℕ → Placed
placed_at list index c = record { character = c; before = characters_before list index }

-- the reading of a character that is neither special nor a digit that counts nor a dot that is dropped
abbrev pub reading_in_context : Canonical → Weights → Placed → List Placed → Reading
reading_in_context canonical weights p ps =
    elim (prefix_match weights p) [
      | Some es ↦ record { elements = es; left = ps }
      | None ↦ text_reading canonical weights p.character (p ∷ ps)
    ]

-- elements were added as this reading has them, and what it leaves is read as what stands in a list from an index on
pub record IsReadAs (canonical : Canonical) (weights : Weights) (first : Reading) (ready : List ℕ) (list : List ℕ) (next : ℕ) (after : List ℕ) : Type 0 where
  pub elements : AddsElements ready first.elements after
  pub left : KnowNoMarksBefore canonical.class weights → AreAlike weights first.left (drop next (placed list))

-- what is ready, and what a list has from an index on, are together what they were before
abbrev pub IsRead : Canonical → Weights → Bool → List ℕ → ℕ → List Element → List ℕ → ℕ → List Element → Type 0
IsRead canonical weights numeric old index ready new next after =
    after ++ elements_from canonical weights numeric new next ≡ ready ++ elements_from canonical weights numeric old index
