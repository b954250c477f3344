-- Normal forms of bytes and of units, as normalisers give them, and those of a text that was split in two.
use Rattle.std.specs.Prelude.{◌≡◌, ℕ, ◌++◌, List, encode_utf8_all}
use Rattle.icu_normalizer_core.specs.Canonical.{Canonical, composed, decomposed}
use Rattle.icu_normalizer_core.specs.Decoding.{utf16_chars, utf8_chars}
use Rattle.icu_normalizer.specs.Texts.{encode_utf16_all}

-- the NFD and the NFC of bytes, read as UTF-8
abbrev pub decomposed_bytes : Canonical → List ℕ → List ℕ
decomposed_bytes canonical bytes = encode_utf8_all (decomposed canonical (utf8_chars bytes))

abbrev pub composed_bytes : Canonical → List ℕ → List ℕ
composed_bytes canonical bytes = encode_utf8_all (composed canonical (utf8_chars bytes))

-- those of units, read as UTF-16
abbrev pub decomposed_units : Canonical → List ℕ → List ℕ
decomposed_units canonical units = encode_utf16_all (decomposed canonical (utf16_chars units))

abbrev pub composed_units : Canonical → List ℕ → List ℕ
composed_units canonical units = encode_utf16_all (composed canonical (utf16_chars units))

-- a text in two parts, the first of which, with the form of the other after it, is the form of the text
abbrev pub IsSplitFor : (List ℕ → List ℕ) → List ℕ → List ℕ → List ℕ → Type 0
IsSplitFor form text prefix rest = prefix ++ form rest ≡ form text
