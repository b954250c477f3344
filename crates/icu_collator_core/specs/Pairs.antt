-- Two characters that stand together, the first of which begins recorded texts, or the second of which has recorded prefixes.
use Rattle.std.specs.Prelude.{◌≡◌, ℕ, ◌≤◌, ◌⊎◌, ◌==◌, ◌&&◌, All, true, false, List, [], ◌∷◌, ◌++◌, take, Option, None, Some}
use Rattle.std.specs.List.{AllByRecursion}
use lib.Utf8.{scalars}
use Rattle.icu_collator_types.specs.declared.elements.Element.{Element}
use Rattle.icu_collator_core.specs.Acceptance.{CollationSource}
use Rattle.icu_collator_core.specs.AlikeLists.{IsToldAlone}
use Rattle.icu_collator_core.specs.Defaults.{special_primary}
use Rattle.icu_collator_core.specs.Elements.{match_length}
use Rattle.icu_collator_core.specs.FlatNotes.{AreReadBefore, IsBoundaryApart, StandInOrder}
use Rattle.icu_collator_core.specs.PlainWords.{IsUnprefixed}
use Rattle.icu_collator_core.specs.ReadSources.{canonical_by, weights_by}
use Rattle.icu_collator_core.specs.declared.notes.pairs.PairNote.{PairNote}
use Rattle.icu_collator_core.specs.declared.notes.pairs.PairNotes.{PairNotes}

-- Two characters, of which the full list of the first begins with a boundary, and the second is its own, have these elements
-- together, whatever stands before them, where what follows may stand after this class: that of the second, if it is one.
pub record IsPair (source : CollationSource) (first second : ℕ) (items : List ℕ) (trail : ℕ) : Type 0 where
  pub head : ℕ
  pub rest : List ℕ
  pub first_full : (canonical_by source).full first ≡ head ∷ rest
  pub second_own : (canonical_by source).full second ≡ second ∷ []
  pub characters : scalars (head ∷ (rest ++ second ∷ [])) ≡ true
  pub begins : (numeric : Option ℕ) → IsBoundaryApart source numeric head
  pub order : StandInOrder (canonical_by source).class 0 (rest ++ second ∷ [])
  pub last : trail ≤ 255 → (canonical_by source).class second ≡ trail
  pub read : (numeric : Option ℕ) → AreReadBefore source numeric (head ∷ (rest ++ second ∷ [])) trail items

-- the elements that are noted
abbrev pub noted_elements : PairNote → List ℕ
noted_elements pair = take pair.count pair.elements

-- nothing is noted, or what is noted of two characters is so
abbrev pub IsPairNote : CollationSource → PairNote → Type 0
IsPairNote source pair = (pair.count ≡ 0) ⊎ IsPair source pair.first pair.second (noted_elements pair) pair.trail

-- so it is of each
abbrev pub ArePairNotes : CollationSource → PairNotes → Type 0
ArePairNotes source notes = All (IsPairNote source) notes.slots.items

-- ## What tells that two characters are a pair

-- Of characters that stand together the first is a boundary, none is a digit, and they tell alone which prefixes count.
pub record IsToldApart (source : CollationSource) (first : ℕ) (rest : List ℕ) : Type 0 where
  pub uncounted : AllByRecursion (λ (c : ℕ). (weights_by None source).digit c ≡ None) (first ∷ rest)
  pub begins : (numeric : Option ℕ) → IsBoundaryApart source numeric first
  pub told : (numeric : Option ℕ) → IsToldAlone (weights_by numeric source) (first ∷ rest)

-- so it is of a character with one that is its own full list
pub record IsPairApart (source : CollationSource) (first second : ℕ) : Type 0 where
  pub second_own : (canonical_by source).full second ≡ second ∷ []
  pub together : IsToldApart source first (second ∷ [])

-- so it is of two characters with a starter that is its own full list
pub record IsComposedApart (source : CollationSource) (first mark second : ℕ) : Type 0 where
  pub second_own : (canonical_by source).full second ≡ second ∷ []
  pub starter : (canonical_by source).class second ≡ 0
  pub together : IsToldApart source first (mark ∷ second ∷ [])

-- Two characters are a recorded text, with which no other begins; the first is neither special nor a dot that may be dropped, and no
-- prefix is recorded with it.
pub record IsClosedPair (source : CollationSource) (first second : ℕ) : Type 0 where
  pub ordinary : special_primary first ≡ None
  pub undropped : ((weights_by None source).dot_above && (first == 0x307)) ≡ false
  pub unprefixed : IsUnprefixed (weights_by None source) first
  pub elements : List Element
  pub recorded : (weights_by None source).recorded [] (first ∷ second ∷ []) ≡ Some elements
  pub longest : (cs : List ℕ) → scalars (second ∷ cs) ≡ true → match_length (weights_by None source) (first ∷ second ∷ cs) ≡ 2
