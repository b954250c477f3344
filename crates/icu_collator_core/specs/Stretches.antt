-- Texts that are read by stretches, each from one boundary to the next, or from the beginning.
use Rattle.std.specs.Prelude.{◌≡◌, ℕ, ◌≤◌, ◌⊎◌, Bool, false, true, List, ◌∷◌, ◌++◌, flat_map, length, take, Option}
use Rattle.std.specs.Option.{is_some}
use lib.Utf8.{scalars}
use Rattle.icu_normalizer_core.specs.Canonical.{decomposed}
use Rattle.icu_collator_core.specs.AlikeLists.{IsToldAlone}
use Rattle.icu_collator_core.specs.Acceptance.{CollationSource}
use Rattle.icu_collator_core.specs.ElementLists.{unpacked}
use Rattle.icu_collator_core.specs.Elements.{elements_of_list}
use Rattle.icu_collator_core.specs.FlatNotes.{IsBoundaryApart, IsReadInOrder}
use Rattle.icu_collator_core.specs.ReadSources.{canonical_by, weights_by}
use Rattle.icu_collator_core.specs.declared.flat.stretches.Stretch.{Stretch}

-- a list begins with a boundary
pub record BeginsWithBoundary (source : CollationSource) (numeric : Option ℕ) (list : List ℕ) : Type 0 where
  pub first : ℕ
  pub rest : List ℕ
  pub list_is : list ≡ first ∷ rest
  pub apart : IsBoundaryApart source numeric first

-- A text ends with these characters, the last stretch: a boundary and what stands after it, or the whole text. The decomposed
-- list of what stands before has the first so many elements. Unless the stretch is rough, its full lists one after another are in
-- order and have the other elements, where what follows may stand after this class.
pub record IsReadUpToStretch (source : CollationSource) (numeric : Option ℕ) (text chars : List ℕ) (count class : ℕ) (is_rough : Bool) (items : List ℕ) : Type 0 where
  pub done : List ℕ
  pub before : ℕ
  pub closed : IsReadInOrder source numeric done before (take count items)
  pub counted : count ≤ length items
  pub begins : (before ≡ 0) ⊎ BeginsWithBoundary source numeric (flat_map (canonical_by source).full chars)
  pub same : (rest : List ℕ) → decomposed (canonical_by source) (text ++ rest) ≡ done ++ decomposed (canonical_by source) (chars ++ rest)
  pub flat : is_rough ≡ false → IsReadInOrder source numeric (done ++ flat_map (canonical_by source).full chars) class items

-- a decomposed list has these elements, whatever stands before it
pub record HasElements (source : CollationSource) (numeric : Option ℕ) (list items : List ℕ) : Type 0 where
  pub characters : scalars list ≡ true
  pub alone : IsToldAlone (weights_by numeric source) list
  pub elements : unpacked items ≡ elements_of_list (canonical_by source) (weights_by numeric source) (is_some numeric) list

-- so it is of a stretch
abbrev pub IsOpen : CollationSource → Option ℕ → List ℕ → Stretch → List ℕ → Type 0
IsOpen source numeric text s items = IsReadUpToStretch source numeric text s.chars.items s.count s.class s.is_rough items

-- the decomposed list of a text has these elements, where what follows may stand after this class
abbrev pub IsClosed : CollationSource → Option ℕ → List ℕ → ℕ → List ℕ → Type 0
IsClosed source numeric text class items = IsReadInOrder source numeric (decomposed (canonical_by source) text) class items
