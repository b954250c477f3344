-- The characters that the bytes or units of an encoding spell, as numbers. What is damaged reads as U+FFFD, so each list of bytes or units spells some text.
use Rattle.std.specs.Prelude.{ℕ, List}
use Rattle.std.specs.Char.Utf16.{utf16_lossy_chars}
use Rattle.bstr.specs.Utf8.{lossy_chars}

-- the characters of UTF-8 bytes: U+FFFD stands for each maximal subpart that is no character (Unicode, Table 3-7)
abbrev pub utf8_chars : List ℕ → List ℕ
utf8_chars bytes = lossy_chars bytes

-- the characters of UTF-16 units: U+FFFD stands for each surrogate that has no partner
abbrev pub utf16_chars : List ℕ → List ℕ
utf16_chars units = utf16_lossy_chars units

-- the characters of Latin-1 bytes: each byte is the number of its character
abbrev pub latin1_chars : List ℕ → List ℕ
latin1_chars bytes = bytes
