-- The elements of a text that is given by an iterator.
use Rattle.std.specs.Prelude.{◌≡◌, ℕ, List, [], ◌∷◌, Option, None, MatchOption}
use Rattle.std.specs.Iterator.{Count}
use Rattle.std.specs.Option.{is_some}
use Rattle.icu_normalizer_core.specs.Canonical.{decomposed}
use Rattle.icu_collator_types.specs.declared.elements.Element.{Element}
use Rattle.icu_collator_types.specs.ElementBits.{element_bits}
use Rattle.icu_collator_core.specs.declared.elements.collation_elements.CollationElements.{CollationElements}
use Rattle.icu_collator_core.specs.Acceptance.{CollationSource}
use Rattle.icu_collator_core.specs.Elements.{elements_of_list}
use Rattle.icu_collator_core.specs.Pools.{element_of}
use Rattle.icu_collator_core.specs.ReadSources.{canonical_by, weights_by}
use Rattle.icu_collator_core.specs.Readers.{HasEnded, ReadsOn, elements_left, numeric_of, source_of}
use Rattle.icu_collator_core.specs.Upcoming.{CanComeUp, HasUnread}

-- the elements of a text by tables; where a lead byte is given, its numbers are read as such
abbrev pub text_elements : CollationSource → Option ℕ → List ℕ → List Element
text_elements source numeric text =
    elements_of_list (canonical_by source) (weights_by numeric source) (is_some numeric) (decomposed (canonical_by source) text)

-- the tables, and the lead byte of numbers, where digits count
abbrev pub tables_of : {I : Type 0} → CollationElements I → CollationSource
tables_of s = source_of s.reader

abbrev pub numbers_of : {I : Type 0} → CollationElements I → Option ℕ
numbers_of s = numeric_of s.reader

-- nothing is read yet: these characters were put before, the last one first, and these has the iterator yet to give
abbrev pub IsBefore : {I : Type 0} → (I → Option ℕ → I → Type 0) → CollationElements I → List ℕ → List ℕ → Type 0
IsBefore steps s before rest = MatchOption s.source ⊥ (λ u. HasUnread steps u before rest)

-- the text is read to its end, and all its elements are given
abbrev pub IsFinished : {I : Type 0} → CollationElements I → Type 0
IsFinished s = HasEnded s.reader

-- nothing is read yet, and the iterator may be called; or no element is to come
abbrev pub CanBegin : {I : Type 0} → (I → Type 0) → (I → Count) → CollationElements I → Type 0
CanBegin can left s = MatchOption s.source (IsFinished s) (λ u. CanComeUp can left u)

-- the elements that are still to come
abbrev pub elements_to_come : {I : Type 0} → CollationElements I → List Element
elements_to_come s = elements_left s.reader

-- a character that was to be put before found no memory: nothing is read, and no element is to come
pub record HasFailed {I : Type 0} (s : CollationElements I) : Type 0 where
  pub gone : s.source ≡ None
  pub finished : IsFinished s

-- the tables and the lead byte are the same
abbrev pub KeepsTables : {I : Type 0} → CollationElements I → CollationElements I → Type 0
KeepsTables old new = ReadsOn old.reader new.reader

-- the element that ends a text
abbrev pub end_element : ℕ
end_element = element_bits 1 0x0100 0x0100

-- a call gave the first of these elements, the one that ends a text where there was none, and leaves these
abbrev pub GivesElement : List Element → ℕ → List Element → Type 0
GivesElement [] bits rest = (bits ≡ end_element) × (rest ≡ [])
GivesElement (e ∷ es) bits rest = (element_of bits ≡ e) × (rest ≡ es)
