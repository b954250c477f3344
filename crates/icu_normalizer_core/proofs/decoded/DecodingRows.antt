-- What known bytes and units read as, from the tables of the Unicode Standard.
use Rattle.std.proofs.Common.{◌≡◌, [], ◌∷◌, refl}
use Rattle.icu_normalizer_core.specs.Decoding.{utf8_chars, utf16_chars, latin1_chars}
use Rattle.icu_normalizer_core.proofs.decoded.DecodingComputing.{decoding}

-- ---- UTF-8

-- the first two bytes of a character of four are one piece
truncated_piece : utf8_chars (0xF0 ∷ 0x90 ∷ []) ≡ 0xFFFD ∷ []
unfolding decoding
truncated_piece = refl

-- a surrogate in three bytes is three pieces
surrogate_bytes : utf8_chars (0xED ∷ 0xA0 ∷ 0x80 ∷ []) ≡ 0xFFFD ∷ 0xFFFD ∷ 0xFFFD ∷ []
unfolding decoding
surrogate_bytes = refl

-- a slash in two bytes is two pieces
overlong_slash : utf8_chars (0xC0 ∷ 0xAF ∷ []) ≡ 0xFFFD ∷ 0xFFFD ∷ []
unfolding decoding
overlong_slash = refl

-- the first number past U+10FFFF is four pieces
past_the_last : utf8_chars (0xF4 ∷ 0x90 ∷ 0x80 ∷ 0x80 ∷ []) ≡ 0xFFFD ∷ 0xFFFD ∷ 0xFFFD ∷ 0xFFFD ∷ []
unfolding decoding
past_the_last = refl

stray_byte : utf8_chars (0x61 ∷ 0xFF ∷ []) ≡ 0x61 ∷ 0xFFFD ∷ []
unfolding decoding
stray_byte = refl

-- U+FFFD itself reads as U+FFFD
written_replacement : utf8_chars (0x61 ∷ 0xEF ∷ 0xBF ∷ 0xBD ∷ []) ≡ 0x61 ∷ 0xFFFD ∷ []
unfolding decoding
written_replacement = refl

-- the Unicode Standard's Table 3-8: 61 F1 80 80 E1 80 C2 62 80 63 80 BF 64
maximal_subparts : utf8_chars (0x61 ∷ 0xF1 ∷ 0x80 ∷ 0x80 ∷ 0xE1 ∷ 0x80 ∷ 0xC2 ∷ 0x62 ∷ 0x80 ∷ 0x63 ∷ 0x80 ∷ 0xBF ∷ 0x64 ∷ [])
    ≡ 0x61 ∷ 0xFFFD ∷ 0xFFFD ∷ 0xFFFD ∷ 0x62 ∷ 0xFFFD ∷ 0x63 ∷ 0xFFFD ∷ 0xFFFD ∷ 0x64 ∷ []
unfolding decoding
maximal_subparts = refl

-- "Straße", of one and two bytes a character
street_utf8 : utf8_chars (0x53 ∷ 0x74 ∷ 0x72 ∷ 0x61 ∷ 0xC3 ∷ 0x9F ∷ 0x65 ∷ []) ≡ 0x53 ∷ 0x74 ∷ 0x72 ∷ 0x61 ∷ 0xDF ∷ 0x65 ∷ []
unfolding decoding
street_utf8 = refl

-- a Hangul syllable of three bytes and a face of four
syllable_and_face_utf8 : utf8_chars (0xED ∷ 0x95 ∷ 0x9C ∷ 0xF0 ∷ 0x9F ∷ 0x98 ∷ 0x80 ∷ []) ≡ 0xD55C ∷ 0x1F600 ∷ []
unfolding decoding
syllable_and_face_utf8 = refl

no_bytes : utf8_chars [] ≡ []
unfolding decoding
no_bytes = refl

-- ---- UTF-16

-- a low surrogate before a high one is no pair
turned_pair : utf16_chars (0xDC00 ∷ 0xD800 ∷ []) ≡ 0xFFFD ∷ 0xFFFD ∷ []
unfolding decoding
turned_pair = refl

high_at_the_end : utf16_chars (0x61 ∷ 0xD800 ∷ []) ≡ 0x61 ∷ 0xFFFD ∷ []
unfolding decoding
high_at_the_end = refl

face_utf16 : utf16_chars (0xD83D ∷ 0xDE00 ∷ []) ≡ 0x1F600 ∷ []
unfolding decoding
face_utf16 = refl

-- of two high surrogates the second has the partner
high_before_pair : utf16_chars (0xD83D ∷ 0xD83D ∷ 0xDE00 ∷ 0xDE00 ∷ []) ≡ 0xFFFD ∷ 0x1F600 ∷ 0xFFFD ∷ []
unfolding decoding
high_before_pair = refl

-- the first pair and the last
pair_bounds : utf16_chars (0xD800 ∷ 0xDC00 ∷ 0xDBFF ∷ 0xDFFF ∷ []) ≡ 0x10000 ∷ 0x10FFFF ∷ []
unfolding decoding
pair_bounds = refl

street_utf16 : utf16_chars (0x53 ∷ 0x74 ∷ 0x72 ∷ 0x61 ∷ 0xDF ∷ 0x65 ∷ []) ≡ 0x53 ∷ 0x74 ∷ 0x72 ∷ 0x61 ∷ 0xDF ∷ 0x65 ∷ []
unfolding decoding
street_utf16 = refl

-- ---- Latin-1

a_acute_latin1 : latin1_chars (0xE1 ∷ []) ≡ 0xE1 ∷ []
a_acute_latin1 = refl

street_latin1 : latin1_chars (0x53 ∷ 0x74 ∷ 0x72 ∷ 0x61 ∷ 0xDF ∷ 0x65 ∷ []) ≡ 0x53 ∷ 0x74 ∷ 0x72 ∷ 0x61 ∷ 0xDF ∷ 0x65 ∷ []
street_latin1 = refl
