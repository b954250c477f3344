-- Elements that a word states by itself, and the 64 bits of all others.
use Rattle.std.specs.Prelude.{◌≡◌, ℕ, ◌+◌, ◌*◌, ◌/◌, ◌%◌, ◌^◌, ◌<◌, Bool, cond, not, ◌==◌, ◌&&◌, ◌||◌, true, Some}
use Rattle.icu_collator_types.specs.declared.elements.Element.{Element}
use Rattle.icu_collator_core.specs.Defaults.{common}
use Rattle.icu_collator_core.specs.Pools.{stated_element}
use Rattle.icu_collator_core.specs.WordForms.{states_element}

-- a word states just this element
pub record States (word : ℕ) (e : Element) : Type 0 where
  pub fits : word < 2 ^ 32
  pub form : states_element word ≡ true
  pub says : stated_element word ≡ Some e

-- ## Which elements have a word

-- a primary of two bytes, a secondary of one and a tertiary of one
abbrev pub is_narrow : Element → Bool
is_narrow e = (e.primary % 2 ^ 16 == 0) && (e.secondary % 2 ^ 8 == 0) && (e.tertiary % 2 ^ 8 == 0)

-- a primary of three bytes, with common weights
abbrev pub has_long_primary : Element → Bool
has_long_primary e =
    not (e.primary == 0)
    && (e.primary % 2 ^ 8 == 0)
    && (e.secondary == common)
    && (e.case == 0)
    && (e.tertiary == common)

-- a secondary of two bytes and a tertiary of one
abbrev pub has_long_secondary : Element → Bool
has_long_secondary e = (e.primary == 0) && (e.tertiary % 2 ^ 8 == 0)

-- a word states the element; none states a quaternary
abbrev pub fits_word : Element → Bool
fits_word e = (e.quaternary == 0) && (is_narrow e || has_long_primary e || has_long_secondary e)

-- ## The word, and the bits

-- case, and the first byte of the tertiary below
abbrev pub case_byte : Element → ℕ
case_byte e = e.case * 2 ^ 6 + e.tertiary / 2 ^ 8

-- the word of an element that has one
unfoldable pub word_of : Element → ℕ
word_of e =
    cond (is_narrow e) (e.primary + e.secondary + case_byte e)
    (cond (has_long_primary e) (e.primary + 0xc1) (e.secondary * 2 ^ 16 + case_byte e * 2 ^ 8 + 0xc2))

-- the bits of an element
unfoldable pub bits_of : Element → ℕ
bits_of e = e.primary * 2 ^ 32 + e.secondary * 2 ^ 16 + case_byte e * 2 ^ 8 + e.quaternary * 2 ^ 6 + e.tertiary % 2 ^ 8
