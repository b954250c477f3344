-- Normal forms of texts in UTF-8.
use Rattle.std.specs.Prelude.{ℕ, List, chars, encode_utf8_all}
use Rattle.icu_normalizer_core.specs.Canonical.{Canonical, composed, decomposed}

-- the NFD of a text
abbrev pub decomposed_text : Canonical → List ℕ → List ℕ
decomposed_text canonical text = encode_utf8_all (decomposed canonical (chars text))

-- the NFC of a text
abbrev pub composed_text : Canonical → List ℕ → List ℕ
composed_text canonical text = encode_utf8_all (composed canonical (chars text))
