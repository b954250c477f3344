-- Texts that are read flat, one primary after another.
use Rattle.std.specs.Prelude.{◌≡◌, ◌≤◌, ℕ, ◌==◌, false, cond, All, List, [], ◌∷◌, ◌++◌, filter_map, flat_map, Option, Some, None}
use Rattle.std.specs.Char.{IsScalar}
use Rattle.icu_normalizer_core.specs.Iter.{Spells}
use Rattle.icu_collator_types.specs.declared.elements.Element.{Element}
use Rattle.icu_collator_core.specs.Acceptance.{CollationSource}
use Rattle.icu_collator_core.specs.ElementLists.{unpacked}
use Rattle.icu_collator_core.specs.ElementTexts.{text_elements}
use Rattle.icu_collator_core.specs.FlatNotes.{IsPushed, IsReadFlat, IsReadInOrder}
use Rattle.icu_collator_core.specs.Pools.{element_of}
use Rattle.icu_collator_core.specs.ReadSources.{canonical_by}
use Rattle.icu_collator_core.specs.declared.flat.steps.FlatStep.{FlatStep}
use Rattle.icu_collator_core.specs.declared.flat.steps.FlatStep.TheVariants.{Primary, End, Other}

-- the primary of an element that has one
abbrev pub primary_in : ℕ → Option ℕ
primary_in bits = cond ((element_of bits).primary == 0) None (Some (element_of bits).primary)

-- the primaries of elements of 64 bits that have one
abbrev pub primaries_in : List ℕ → List ℕ
primaries_in items = filter_map primary_in items

-- a primary, unless it is 0
abbrev pub primary_if_any : ℕ → List ℕ
primary_if_any p = cond (p == 0) [] (p ∷ [])

-- the first character of a full list is a starter that is read alone, and its element, the first of these, has this primary
pub record BeginsWithStarter (source : CollationSource) (numeric : Option ℕ) (first p : ℕ) (items : List ℕ) : Type 0 where
  pub starter : (canonical_by source).class first ≡ 0
  pub bits : ℕ
  pub others : List ℕ
  pub items_are : items ≡ bits ∷ others
  pub read : IsReadFlat source numeric first bits
  pub primary : primary_in bits ≡ Some p

-- A character was pushed whose elements have this primary, 0 for none, and no other. Where anything may follow, it is that of a
-- starter.
pub record IsStep (source : CollationSource) (numeric : Option ℕ) (c before : ℕ) (old : List ℕ) (p trail : ℕ) (new : List ℕ) : Type 0 where
  pub pushed : IsPushed source numeric c before old trail new
  pub primaries : primaries_in pushed.items ≡ primary_if_any p
  pub begins : (p == 0) ≡ false → trail ≤ 255 → BeginsWithStarter source numeric pushed.flat.first p pushed.items

-- A character after one of a class has this primary, 0 for none, and the last of its full list this class, whatever elements
-- stand before its own.
abbrev pub StepsTo : CollationSource → Option ℕ → ℕ → ℕ → ℕ → ℕ → Type 0
StepsTo source numeric c before p trail = (old : List ℕ) → (new : List ℕ) × IsStep source numeric c before old p trail new

-- next comes the end of a text, or a character that may stand after this class
abbrev pub IsFollowed : CollationSource → Option ℕ → ℕ → Option ℕ → Type 0
IsFollowed source numeric class None = Unit {0}
IsFollowed source numeric class (Some c) = (p : ℕ) × (trail : ℕ) × StepsTo source numeric c class p trail

-- Of a text, the full lists of its first characters are in order and have these elements, where what follows may stand after
-- this class. The characters after are left to an iterator.
pub record IsReadUpTo {I : Type 0} (source : CollationSource) (numeric : Option ℕ) (steps : I → Option ℕ → I → Type 0) (text : List ℕ) (chars : I) (class : ℕ) (items : List ℕ) : Type 0 where
  pub list : List ℕ
  pub rest : List ℕ
  pub text_is : flat_map (canonical_by source).full text ≡ list ++ flat_map (canonical_by source).full rest
  pub left : Spells steps chars rest
  pub read : IsReadInOrder source numeric list class items

-- a text's elements begin with some that have these primaries, and no others
pub record BeginsWithPrimaries (source : CollationSource) (numeric : Option ℕ) (text ps : List ℕ) : Type 0 where
  pub items : List ℕ
  pub more : List Element
  pub elements : text_elements source numeric text ≡ unpacked items ++ more
  pub primaries : primaries_in items ≡ ps

-- What comes next of a text: its next primary, up to which it is read then, and which stands where anything may follow; or
-- nothing, where it is read to its end.
abbrev pub IsNextStep : {I : Type 0} → CollationSource → Option ℕ → (I → Option ℕ → I → Type 0) → List ℕ → List ℕ → FlatStep → I → ℕ → List ℕ → Type 0
IsNextStep source numeric steps text old (Primary p) chars class new =
    IsReadUpTo source numeric steps text chars class new
    × (primaries_in new ≡ primaries_in old ++ p ∷ [])
    × (class ≤ 255 → All IsScalar text → BeginsWithPrimaries source numeric text (primaries_in old ++ p ∷ []))
IsNextStep source numeric steps text old End chars class new =
    (unpacked new ≡ text_elements source numeric text) × (primaries_in new ≡ primaries_in old)
IsNextStep source numeric steps text old Other chars class new = Unit {0}

-- What comes next of a text of which these elements were read: so it is with some elements after them.
abbrev pub IsNextPrimary : {I : Type 0} → CollationSource → Option ℕ → (I → Option ℕ → I → Type 0) → List ℕ → List ℕ → FlatStep → I → ℕ → Type 0
IsNextPrimary source numeric steps text old result chars class =
    (new : List ℕ) × IsNextStep source numeric steps text old result chars class new

-- a primary that comes next stands, whatever else the text holds
abbrev pub IsSettled : CollationSource → Option ℕ → List ℕ → List ℕ → FlatStep → Type 0
IsSettled source numeric text old (Primary p) = All IsScalar text → BeginsWithPrimaries source numeric text (primaries_in old ++ p ∷ [])
IsSettled source numeric text old End = Unit {0}
IsSettled source numeric text old Other = Unit {0}
