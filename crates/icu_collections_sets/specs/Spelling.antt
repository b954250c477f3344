-- Code points and ranges of them as texts.
use Rattle.std.specs.Prelude.{◌≡◌, ℕ, ◌+◌, ◌/◌, ◌%◌, ◌<◌, ◌≤◌, ◌⊎◌, ◌==◌, ◌&&◌, nat_lt, nat_le, if◌then◌else◌, List, [], ◌∷◌, ◌++◌, drop, codes, encode_utf8}

abbrev pub IsSurrogate : ℕ → Type 0
IsSurrogate c = (0xD800 ≤ c) × (c ≤ 0xDFFF)

-- an upper-case hexadecimal digit
abbrev pub hex_digit : ℕ → ℕ
hex_digit d = if nat_lt d 10 then 48 + d else 55 + d

-- a number below 10000 hex by `U+` and its four digits
unfoldable pub hex_spelling : ℕ → List ℕ
hex_spelling c = codes "U+" ++ (hex_digit (c / 0x1000) ∷ hex_digit (c / 0x100 % 16) ∷ hex_digit (c / 16 % 16) ∷ hex_digit (c % 16) ∷ [])

-- a code point as it is written: a surrogate by its number, another as the character
unfoldable pub spelling : ℕ → List ℕ
spelling c = if nat_le 0xD800 c && nat_le c 0xDFFF then hex_spelling c else encode_utf8 c

-- a range of code points as it is written: one code point alone, or the first and the last
abbrev pub range_text : ℕ × ℕ → List ℕ
range_text range = if range.0 == range.1 then spelling range.0 else spelling range.0 ++ (codes "-" ++ spelling range.1)

-- a text spells the range from one code point to another
pub record SpellsRange (text : List ℕ) (range : ℕ × ℕ) : Type 0 where
  pub rises : range.0 ≤ range.1
  pub within : range.1 < 0x110000
  pub spelled : ((text ≡ spelling range.0) × (range.0 ≡ range.1)) ⊎ (text ≡ spelling range.0 ++ (codes "-" ++ spelling range.1))

-- a text begins with a surrogate's number
abbrev pub BeginsWithSurrogate : List ℕ → ℕ → Type 0
BeginsWithSurrogate text c = IsSurrogate c × (text ≡ hex_spelling c ++ drop 6 text)

-- a text begins with a code point, and goes on with a rest; a surrogate's number is that surrogate
pub record BeginsWith (text : List ℕ) (c : ℕ) (rest : List ℕ) : Type 0 where
  pub within : c < 0x110000
  pub split : text ≡ spelling c ++ rest
  pub surrogates_first : (s : ℕ) (tail : List ℕ) → IsSurrogate s → text ≡ spelling s ++ tail → c ≡ s
