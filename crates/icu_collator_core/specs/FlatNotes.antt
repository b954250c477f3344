-- Texts whose characters are read one by one: notes of characters, and the order of marks.
use Rattle.std.specs.Prelude.{◌≡◌, ℕ, ◌≤◌, ◌⊎◌, ◌==◌, ◌&&◌, true, false, List, [], ◌∷◌, ◌++◌, length, Option, None, get_or}
use Rattle.std.specs.Option.{is_some}
use lib.Utf8.{scalar, scalars}
use Rattle.icu_collator_types.specs.declared.elements.Element.{Element}
use Rattle.icu_collator_core.specs.Acceptance.{CollationSource}
use Rattle.icu_collator_core.specs.Boundaries.{IsApart, IsBoundary, after, is_accent}
use Rattle.icu_collator_core.specs.Defaults.{special_primary}
use Rattle.icu_collator_core.specs.ElementLists.{unpacked}
use Rattle.icu_collator_core.specs.Elements.{elements_of_list, elements_within, placed_behind}
use Rattle.icu_collator_core.specs.PlainCharacters.{IsPlainCharacter}
use Rattle.icu_collator_core.specs.PlainWords.{IsReadUncounted, IsUnprefixed}
use Rattle.icu_collator_core.specs.ReadSources.{canonical_by, weights_by}
use Rattle.icu_collator_core.specs.declared.notes.flat_note.FlatNote.{FlatNote}
use Rattle.icu_collator_core.specs.declared.notes.flat_note.FlatNote.TheVariants.{Other, Boundary, One, Digit, Two}

-- A character of a decomposed list is read alone, with one element, these 64 bits, whatever stands before and after it; digits
-- count where a lead byte of numbers is given.
pub record IsReadFlat (source : CollationSource) (numeric : Option ℕ) (c bits : ℕ) : Type 0 where
  pub character : scalar c ≡ true
  pub ordinary : special_primary c ≡ None
  pub uncounted : (is_some numeric && is_some ((weights_by numeric source).digit c)) ≡ false
  pub undropped : ((weights_by numeric source).dot_above && (c == 0x307)) ≡ false
  pub alone : IsReadUncounted (weights_by numeric source) c bits

-- each of these characters is read so, and gives one of these elements
abbrev pub AreReadFlat : CollationSource → Option ℕ → List ℕ → List ℕ → Type 0
AreReadFlat source numeric [] [] = Unit {0}
AreReadFlat source numeric [] (bits ∷ items) = ⊥
AreReadFlat source numeric (c ∷ cs) [] = ⊥
AreReadFlat source numeric (c ∷ cs) (bits ∷ items) = IsReadFlat source numeric c bits × AreReadFlat source numeric cs items

-- a character of a class may stand after one of another: it is a starter, or its class isn't lower
abbrev pub MayFollow : ℕ → ℕ → Type 0
MayFollow before class = (class ≡ 0) ⊎ (before ≤ class)

-- characters after one of this class: marks stand in their order
abbrev pub StandInOrder : (ℕ → ℕ) → ℕ → List ℕ → Type 0
StandInOrder class before [] = Unit {0}
StandInOrder class before (c ∷ cs) = MayFollow before (class c) × StandInOrder class (class c) cs

-- the class of the last of these characters; where there are none, of the one before
abbrev pub last_class : (ℕ → ℕ) → ℕ → List ℕ → ℕ
last_class class before [] = before
last_class class before (c ∷ cs) = last_class class (class c) cs

-- ## What may follow

-- a boundary that goes on with no number, and before which no dot above is dropped
abbrev pub IsBoundaryApart : CollationSource → Option ℕ → ℕ → Type 0
IsBoundaryApart source numeric d =
    IsBoundary (canonical_by source) (weights_by numeric source) d × IsApart (weights_by numeric source) (is_some numeric) d

-- Whether characters may stand after others: anything may after a class of a character, which is at most 255. Where the
-- number is greater, nothing stands there, or a boundary.
abbrev pub MayStandBehind : CollationSource → Option ℕ → ℕ → List ℕ → Type 0
MayStandBehind source numeric class [] = Unit {0}
MayStandBehind source numeric class (d ∷ ds) = (class ≤ 255) ⊎ IsBoundaryApart source numeric d

-- a character isn't read as a digit
abbrev pub IsUncounted : CollationSource → Option ℕ → ℕ → Type 0
IsUncounted source numeric c = (is_some numeric && is_some ((weights_by numeric source).digit c)) ≡ false

-- after a class may stand what begins with a character, and marks are in order up to it
abbrev pub MayBegin : CollationSource → Option ℕ → ℕ → ℕ → Type 0
MayBegin source numeric before c = MayFollow before ((canonical_by source).class c) × MayStandBehind source numeric before (c ∷ [])

-- a character is no digit, and no prefix is recorded with it
pub record IsSteady (source : CollationSource) (c : ℕ) : Type 0 where
  pub unprefixed : IsUnprefixed (weights_by None source) c
  pub uncounted : (weights_by None source).digit c ≡ None

-- the elements of characters that stand after others, the nearest of these first
abbrev pub elements_behind : CollationSource → Option ℕ → List ℕ → List ℕ → List Element
elements_behind source numeric before list =
    elements_within (length list) (canonical_by source) (weights_by numeric source) (is_some numeric) (placed_behind before list)

-- Characters have these elements whatever stands before them, and whatever may stand after a class stands there.
abbrev pub AreReadBefore : CollationSource → Option ℕ → List ℕ → ℕ → List ℕ → Type 0
AreReadBefore source numeric list class items =
    (before later : List ℕ) → scalars before ≡ true → scalars later ≡ true → MayStandBehind source numeric class later
    → elements_behind source numeric before (list ++ later)
    ≡ unpacked items ++ elements_behind source numeric (after before list) later

-- Characters stand in order and have these elements, where what follows may stand after this class: that of the last character,
-- 0 where there is none; where the number is above 255, no class.
pub record IsReadInOrder (source : CollationSource) (numeric : Option ℕ) (list : List ℕ) (class : ℕ) (items : List ℕ) : Type 0 where
  pub characters : scalars list ≡ true
  pub read : AreReadBefore source numeric list class items
  pub order : StandInOrder (canonical_by source).class 0 list
  pub last : class ≤ 255 → last_class (canonical_by source).class 0 list ≡ class

-- the full list of a character begins with a boundary
pub record BeginsApart (source : CollationSource) (numeric : Option ℕ) (c : ℕ) : Type 0 where
  pub first : ℕ
  pub rest : List ℕ
  pub full : (canonical_by source).full c ≡ first ∷ rest
  pub apart : IsBoundaryApart source numeric first

-- ## Notes

-- A character that stands after others, the last with a class, has these elements, where what follows may stand after another
-- class: that of the last of its full list, if it is one. There each character of its full list is read alone.
pub record IsFlat (source : CollationSource) (numeric : Option ℕ) (c before : ℕ) (items : List ℕ) (trail : ℕ) : Type 0 where
  pub first : ℕ
  pub rest : List ℕ
  pub full : (canonical_by source).full c ≡ first ∷ rest
  pub characters : scalars (first ∷ rest) ≡ true
  pub follows : MayStandBehind source numeric before (first ∷ rest)
  pub order : StandInOrder (canonical_by source).class before (first ∷ rest)
  pub last : trail ≤ 255 → last_class (canonical_by source).class before (first ∷ rest) ≡ trail
  pub alone : trail ≤ 255 → AreReadFlat source numeric (first ∷ rest) items
  pub read : AreReadBefore source numeric (first ∷ rest) trail items

-- so it is after each class up to this one
abbrev pub IsFlatUpTo : CollationSource → Option ℕ → ℕ → List ℕ → ℕ → ℕ → Type 0
IsFlatUpTo source numeric c items lead trail = (before : ℕ) → before ≤ lead → IsFlat source numeric c before items trail

-- a plain character before which no dot above is dropped: it has this element whatever stands beside it
pub record IsBoundaryNote (source : CollationSource) (c bits : ℕ) : Type 0 where
  pub plain : IsPlainCharacter source c bits
  pub unaccented : is_accent c ≡ false
  pub flat : (numeric : Option ℕ) (before : ℕ) → IsFlat source numeric c before (bits ∷ []) 0

-- what is noted of a character is so
abbrev pub IsFlatNote : CollationSource → ℕ → FlatNote → Type 0
IsFlatNote source c Other = Unit {0}
IsFlatNote source c (Boundary bits) = IsBoundaryNote source c bits
IsFlatNote source c (One bits lead trail) = (numeric : Option ℕ) → IsFlatUpTo source numeric c (bits ∷ []) lead trail
IsFlatNote source c (Digit bits lead trail) = IsFlatUpTo source None c (bits ∷ []) lead trail
IsFlatNote source c (Two first second lead trail) = (numeric : Option ℕ) → IsFlatUpTo source numeric c (first ∷ second ∷ []) lead trail

-- notes, each at the index that is its character's code
abbrev pub AreFlatNotes : CollationSource → List FlatNote → Type 0
AreFlatNotes source notes = (c : ℕ) → IsFlatNote source c (get_or notes c Other)

-- the note of a character that has these elements wherever a boundary follows
abbrev pub note_by : List ℕ → FlatNote
note_by (bits ∷ []) = One bits 256 256
note_by (first ∷ second ∷ []) = Two first second 256 256
note_by items = Other

-- what is noted of a list of characters by its elements
abbrev pub IsNoteOf : CollationSource → List ℕ → FlatNote → Type 0
IsNoteOf source list note =
    (items : List ℕ) × (unpacked items ≡ elements_of_list (canonical_by source) (weights_by None source) false list) × (note ≡ note_by items)

-- a character's elements were appended to those that were there
pub record IsPushed (source : CollationSource) (numeric : Option ℕ) (c before : ℕ) (old : List ℕ) (trail : ℕ) (new : List ℕ) : Type 0 where
  pub items : List ℕ
  pub flat : IsFlat source numeric c before items trail
  pub appended : new ≡ old ++ items
