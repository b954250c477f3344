-- Texts that are read from the front, in any encoding.
use Rattle.std.specs.Prelude.{◌≡◌, ℕ, ◌<◌, List, [], ◌∷◌, ◌++◌, chars}
use Rattle.std.specs.Char.{IsScalar}
use Rattle.std.specs.Char.Escape.{encode_utf16}
use Rattle.std.specs.List.{AllByRecursion, flat_map}
use Rattle.icu_normalizer_core.specs.Decoding.{utf8_chars, utf16_chars}

-- a text: its units, and the characters that they read as
pub record Text : Type 0 where
  pub units : List ℕ
  pub characters : List ℕ

-- bytes that are known to be UTF-8
abbrev pub str_text : List ℕ → Text
str_text bytes = record { units = bytes; characters = chars bytes }

-- any bytes, read as UTF-8
abbrev pub utf8_text : List ℕ → Text
utf8_text bytes = record { units = bytes; characters = utf8_chars bytes }

-- any units, read as UTF-16
abbrev pub utf16_text : List ℕ → Text
utf16_text units = record { units = units; characters = utf16_chars units }

-- the units of characters in UTF-16
abbrev pub encode_utf16_all : List ℕ → List ℕ
encode_utf16_all = flat_map encode_utf16

-- each number is that of a character
abbrev pub AreCharacters : List ℕ → Type 0
AreCharacters cs = AllByRecursion IsScalar cs

-- an encoding writes character by character, and ASCII as it is
pub record IsEncoding (encode : List ℕ → List ℕ) : Type 0 where
  pub nothing : encode [] ≡ []
  pub append : (xs ys : List ℕ) → encode (xs ++ ys) ≡ encode xs ++ encode ys
  pub plain : (c : ℕ) → c < 0x80 → encode (c ∷ []) ≡ c ∷ []

-- nothing is left
abbrev pub IsAtEnd : Text → Type 0
IsAtEnd text = (text.units ≡ []) × (text.characters ≡ [])

module _ (encode : List ℕ → List ℕ) where
  -- the text is a character, and then the rest
  pub record BeginsWith (text : Text) (c : ℕ) (rest : Text) : Type 0 where
    pub scalar : IsScalar c
    pub units : text.units ≡ encode (c ∷ []) ++ rest.units
    pub characters : text.characters ≡ c ∷ rest.characters

  -- the text is units that begin no character, which read as U+FFFD, and then the rest
  pub record BeginsDamaged (text rest : Text) : Type 0 where
    pub never : (c : ℕ) (more : List ℕ) → IsScalar c → text.units ≡ encode (c ∷ []) ++ more → ⊥
    pub characters : text.characters ≡ 0xFFFD ∷ rest.characters

  -- no part of the text is damaged: its units are those of its characters
  abbrev pub IsUndamaged : Text → Type 0
  IsUndamaged text = encode text.characters ≡ text.units
