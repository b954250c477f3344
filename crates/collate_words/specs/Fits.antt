-- What can be written into tables: elements of 64 bits, short texts beside a character, and a digit that stands alone.
use Rattle.std.specs.Prelude.{◌≡◌, ◌≢◌, ℕ, ◌*◌, ◌+◌, ◌/◌, ◌%◌, ◌^◌, ◌<◌, ◌≤◌, Bool, true, not, ◌&&◌, ltb, List, [], ◌∷◌, All, length, IsTrue, IfSome, None, is_some}
use Rattle.std.specs.Char.{IsScalar}
use Rattle.std.specs.List.{list_all}
use Rattle.std.specs.Str.{bytes_eq}
use Rattle.icu_collator_types.specs.declared.elements.Element.{Element}
use Rattle.icu_collator_core.specs.Pools.{Pools}
use Rattle.icu_collator_core.specs.WeightRules.{has_widths, is_sound_kind}
use Rattle.collate_words.specs.Sayings.{SaidBeside, Saying, texts_beside}

-- whether an element fits 64 bits, and is one of the kinds that records have
abbrev pub fits_bits : Element → Bool
fits_bits e = has_widths e && (is_sound_kind e && (ltb (e.tertiary / 2 ^ 8) (2 ^ 6) && ltb (e.tertiary % 2 ^ 8) (2 ^ 6)))

-- elements that are written: at most eight
pub record AreFit (es : List Element) : Type 0 where
  pub few : length es ≤ 8
  pub bits : list_all fits_bits es ≡ true

-- whether texts are different from each other
abbrev pub are_different : List (List ℕ) → Bool
are_different [] = true
are_different (text ∷ texts) = list_all (λ other. not (bytes_eq text other)) texts && are_different texts

-- what stands beside a character: not empty, at most so many characters, and elements that fit
pub record IsBeside (most : ℕ) (said : SaidBeside) : Type 0 where
  pub some : 0 < length said.characters
  pub short : length said.characters ≤ most
  pub scalars : All IsScalar said.characters
  pub elements : AreFit said.elements

pub record AreBeside (most : ℕ) (saids : List SaidBeside) : Type 0 where
  pub each : All (IsBeside most) saids
  pub different : are_different (texts_beside saids) ≡ true

-- a digit, with elements of its own and nothing beside it
pub record IsDigitAlone (saying : Saying) (value : ℕ) : Type 0 where
  pub low : value ≤ 9
  pub own : IsTrue (is_some saying.own)
  pub no_suffixes : saying.suffixes ≡ []
  pub no_prefixes : saying.prefixes ≡ []

-- what can be written of a character
pub record IsFit (saying : Saying) : Type 0 where
  pub own : IfSome saying.own AreFit
  pub offset : IfSome saying.offset (λ bits. bits < 2 ^ 64)
  -- elements of its own count before its range
  pub own_first : IsTrue (is_some saying.own) → saying.offset ≡ None
  pub digit : IfSome saying.digit (IsDigitAlone saying)
  pub suffixes : AreBeside 7 saying.suffixes
  pub prefixes : AreBeside 3 saying.prefixes
  -- a character with prefixes has elements of its own
  pub prefixed : saying.prefixes ≢ [] → IsTrue (is_some saying.own)

-- Room for so many elements, and for so many texts beside characters: each of these takes at most 145 units of contexts, and
-- a word names 2 ^ 19 indices.
pub record HasRoom (pools : Pools) (elements texts : ℕ) : Type 0 where
  pub ces : length pools.ces + elements ≤ 2 ^ 19
  pub ce32s : length pools.ce32s + elements ≤ 2 ^ 19
  pub contexts : length pools.contexts + 145 * texts ≤ 2 ^ 19
