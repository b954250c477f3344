-- Texts that are read by stretches as far as is asked: what was read, and what stands of it.
use Rattle.std.specs.Prelude.{◌≡◌, ℕ, ◌≤◌, ◌⊎◌, All, true, false, List, [], ◌∷◌, ◌++◌, length, take, Option}
use Rattle.std.specs.Char.{IsScalar}
use Rattle.icu_normalizer_core.specs.Iter.{Spells}
use Rattle.icu_collator_types.specs.declared.elements.Element.{Element}
use Rattle.icu_collator_core.specs.Acceptance.{CollationSource}
use Rattle.icu_collator_core.specs.ElementLists.{unpacked}
use Rattle.icu_collator_core.specs.ElementTexts.{text_elements}
use Rattle.icu_collator_core.specs.FlatNotes.{BeginsApart}
use Rattle.icu_collator_core.specs.Stretches.{IsOpen}
use Rattle.icu_collator_core.specs.declared.flat.stretched.StretchedElements.{StretchedElements}

-- the elements that stand, whatever follows
abbrev pub settled_in : StretchedElements → List ℕ
settled_in s = take s.settled s.elements.items

-- a text begins with a character whose full list begins with a boundary
pub record BeginsTextApart (source : CollationSource) (numeric : Option ℕ) (text : List ℕ) : Type 0 where
  pub first : ℕ
  pub rest : List ℕ
  pub text_is : text ≡ first ∷ rest
  pub apart : BeginsApart source numeric first

-- a front is read without the text that stands after it: it is empty, or it ends before a boundary
abbrev pub EndsApart : CollationSource → Option ℕ → List ℕ → List ℕ → Type 0
EndsApart source numeric front text = (front ≡ []) ⊎ BeginsTextApart source numeric text

-- the elements of a front and a text after it are those of the front, then these, then more
abbrev pub BeginsWithElements : CollationSource → Option ℕ → List ℕ → List ℕ → List ℕ → Type 0
BeginsWithElements source numeric front text items =
    (more : List Element) × (text_elements source numeric (front ++ text) ≡ text_elements source numeric front ++ (unpacked items ++ more))

-- they are those of the front, then these
abbrev pub EndsWithElements : CollationSource → Option ℕ → List ℕ → List ℕ → List ℕ → Type 0
EndsWithElements source numeric front text items =
    text_elements source numeric (front ++ text) ≡ text_elements source numeric front ++ unpacked items

-- nothing was read
pub record IsUnread (s : StretchedElements) : Type 0 where
  pub chars : s.stretch.chars.items ≡ []
  pub count : s.stretch.count ≡ 0
  pub class : s.stretch.class ≡ 0
  pub items : s.elements.items ≡ []
  pub settled : s.settled ≡ 0
  pub unended : s.is_ended ≡ false

-- so many characters of a text were read, and the rest is left to an iterator
pub record IsReadInto {I : Type 0} (source : CollationSource) (numeric : Option ℕ) (steps : I → Option ℕ → I → Type 0) (text : List ℕ) (chars : I) (s : StretchedElements) : Type 0 where
  pub read : List ℕ
  pub rest : List ℕ
  pub text_is : text ≡ read ++ rest
  pub left : Spells steps chars rest
  pub opened : IsOpen source numeric read s.stretch s.elements.items

-- A text is read so far: its elements begin with those that stand, also after a front that is read without it. Where it was read to
-- its end, they are these; else the rest is left to an iterator.
pub record IsStretched {I : Type 0} (source : CollationSource) (numeric : Option ℕ) (steps : I → Option ℕ → I → Type 0) (text : List ℕ) (chars : I) (s : StretchedElements) : Type 0 where
  pub stands : (front : List ℕ) → EndsApart source numeric front text → All IsScalar (front ++ text) → BeginsWithElements source numeric front text (settled_in s)
  pub whole : s.is_ended ≡ true → (front : List ℕ) → EndsApart source numeric front text → All IsScalar (front ++ text) → EndsWithElements source numeric front text (settled_in s)
  pub left : s.is_ended ≡ false → IsReadInto source numeric steps text chars s

-- Reading went on: what stood before stands at the beginning of what stands now.
pub record HasReadOn {I : Type 0} (source : CollationSource) (numeric : Option ℕ) (steps : I → Option ℕ → I → Type 0) (old : I) (before : StretchedElements) (new : I) (after : StretchedElements) : Type 0 where
  pub kept : (text : List ℕ) → All IsScalar text → IsStretched source numeric steps text old before → IsStretched source numeric steps text new after
  pub same : (text : List ℕ) → All IsScalar text → IsStretched source numeric steps text old before → (k : ℕ) → k ≤ length (settled_in before)
      → unpacked (take k (settled_in after)) ≡ unpacked (take k (settled_in before))
