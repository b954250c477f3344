-- Boundaries that two texts have in common, and how what stands after them compares.
use Rattle.std.specs.Prelude.{◌≡◌, ℕ, List, [], ◌++◌, Option}
use Rattle.std.specs.declared.cmp.Ordering.{Ordering}
use Rattle.icu_normalizer_core.specs.Iter.{Spells}
use Rattle.icu_collator_types.specs.declared.elements.Element.{Element}
use Rattle.icu_collator_types.specs.declared.options.ResolvedCollatorOptions.{ResolvedCollatorOptions}
use Rattle.icu_collator_core.specs.Acceptance.{CollationSource}
use Rattle.icu_collator_core.specs.Collation.{Collation}
use Rattle.icu_collator_core.specs.ElementLists.{unpacked}
use Rattle.icu_collator_core.specs.Stretched.{EndsApart}
use Rattle.icu_collator.specs.Levels.{elements_of_text, levels_of}
use Rattle.icu_collator.specs.Order.{levels_order}
use Rattle.icu_collator.specs.Shifted.{counted}

-- Two texts have a front in common, which is empty at the first index, and what stands after it is left to iterators. It is read
-- without what stands there.
pub record BeginAt {I J : Type 0} (source : CollationSource) (left_steps : I → Option ℕ → I → Type 0) (right_steps : J → Option ℕ → J → Type 0) (a b : List ℕ) (index : ℕ) (left : I) (right : J) : Type 0 where
  pub front : List ℕ
  pub left_rest : List ℕ
  pub right_rest : List ℕ
  pub left_is : a ≡ front ++ left_rest
  pub right_is : b ≡ front ++ right_rest
  pub left_spells : Spells left_steps left left_rest
  pub right_spells : Spells right_steps right right_rest
  pub left_apart : (numeric : Option ℕ) → EndsApart source numeric front left_rest
  pub right_apart : (numeric : Option ℕ) → EndsApart source numeric front right_rest
  pub whole : index ≡ 0 → front ≡ []

-- elements that count after others as they do alone
abbrev pub CountApart : Collation → ResolvedCollatorOptions → List Element → Type 0
CountApart collation options fs =
    (es : List Element) → counted collation options (es ++ fs) ≡ counted collation options es ++ counted collation options fs

-- a text's elements are those of a front, then these
abbrev pub AreElementsBehind : Collation → ResolvedCollatorOptions → List ℕ → List ℕ → List ℕ → Type 0
AreElementsBehind collation options front text items =
    elements_of_text collation options text ≡ elements_of_text collation options front ++ unpacked items

-- the order of two lists of elements, at all levels but that of the characters
abbrev pub elements_order : Collation → ResolvedCollatorOptions → List Element → List Element → Ordering
elements_order collation options es fs =
    levels_order options (levels_of collation options es []) (levels_of collation options fs [])
