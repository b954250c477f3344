-- Texts decomposed and composed.
use Rattle.std.specs.Prelude.{◌≡◌, [], ◌∷◌, ◌++◌, Some, None, refl, codes}
use Rattle.icu_normalizer_core.specs.Canonical.{decomposed, composed}
use Rattle.icu_normalizer_core.specs.Decoding.{utf8_chars}
use Rattle.examples_uses.specs.Files.{Lines, meant}
use Rattle.examples_uses.specs.Letters.{letters}
use Rattle.examples_uses.proofs.WorkedComputing.{computing}

-- The dot below stands before the acute, so it is the one that composes with "a".
pub dot_below_composes_first : composed (meant letters).canonical (codes "ạ́") ≡ codes "ạ́"
unfolding computing
dot_below_composes_first = refl

-- a diaeresis composes with "a"
abbrev with_a_diaeresis : Lines
with_a_diaeresis = letters ++ codes "map 00E4 0061 0308" ∷ []

pub a_and_diaeresis_compose : (meant with_a_diaeresis).canonical.pair 0x61 0x308 ≡ Some 0xe4
unfolding computing
a_and_diaeresis_compose = refl

-- Letters with a dot below them: U+0929, and U+0958, which an x keeps out of the composed pairs.
abbrev with_dotted_letters : Lines
with_dotted_letters = letters ++ codes "class 093C 7" ∷ codes "map 0929 0928 093C" ∷ codes "map 0958 0915 093C x" ∷ []

pub letter_and_dot_compose : (meant with_dotted_letters).canonical.pair 0x928 0x93c ≡ Some 0x929
unfolding computing
letter_and_dot_compose = refl

pub kept_out_of_the_pairs : (meant with_dotted_letters).canonical.pair 0x915 0x93c ≡ None
unfolding computing
kept_out_of_the_pairs = refl

-- The letter is decomposed all the same, and isn't composed again.
pub kept_out_and_decomposed : decomposed (meant with_dotted_letters).canonical (0x958 ∷ []) ≡ 0x915 ∷ 0x93c ∷ []
unfolding computing
kept_out_and_decomposed = refl

pub kept_out_and_not_composed : composed (meant with_dotted_letters).canonical (0x958 ∷ []) ≡ 0x915 ∷ 0x93c ∷ []
unfolding computing
kept_out_and_not_composed = refl

-- a letter that is a letter with a mark, with a further mark
abbrev with_two_steps : Lines
with_two_steps = letters ++ codes "map 1EA5 00E2 0301" ∷ codes "map 00E2 0061 0302" ∷ []

-- It is decomposed step by step, and composed so again.
pub decomposed_in_two_steps : decomposed (meant with_two_steps).canonical (0x1ea5 ∷ []) ≡ 0x61 ∷ 0x302 ∷ 0x301 ∷ []
unfolding computing
decomposed_in_two_steps = refl

pub composed_in_two_steps : composed (meant with_two_steps).canonical (0x61 ∷ 0x302 ∷ 0x301 ∷ []) ≡ 0x1ea5 ∷ []
unfolding computing
composed_in_two_steps = refl

-- A mapping to one character is never undone: U+2126 is the letter U+03A9.
pub mapped_to_one :
    composed (meant (letters ++ codes "map 2126 03A9" ∷ [])).canonical (0x2126 ∷ 0x3a9 ∷ []) ≡ 0x3a9 ∷ 0x3a9 ∷ []
unfolding computing
mapped_to_one = refl

-- A compatibility mapping counts in no canonical form.
pub compatibility_is_not_canonical :
    decomposed (meant (letters ++ codes "kmap FB01 0066 0069" ∷ [])).canonical (0xfb01 ∷ []) ≡ 0xfb01 ∷ []
unfolding computing
compatibility_is_not_canonical = refl

-- Damaged bytes on both sides don't stand in the way.
pub damaged_bytes_around_a_letter :
    composed (meant with_a_diaeresis).canonical (utf8_chars (0xff ∷ 0x61 ∷ 0xcc ∷ 0x88 ∷ 0xff ∷ []))
    ≡ 0xfffd ∷ 0xe4 ∷ 0xfffd ∷ []
unfolding computing
damaged_bytes_around_a_letter = refl

-- A mark that is two marks is decomposed, and isn't composed again.
pub mark_of_two_marks : decomposed (meant letters).canonical (0x344 ∷ []) ≡ 0x308 ∷ 0x301 ∷ []
unfolding computing
mark_of_two_marks = refl

pub mark_of_two_marks_stays_two : composed (meant letters).canonical (0x344 ∷ []) ≡ 0x308 ∷ 0x301 ∷ []
unfolding computing
mark_of_two_marks_stays_two = refl

-- A syllable is decomposed into three jamo, of which it is composed again.
pub syllable_of_three : decomposed (meant letters).canonical (0xac01 ∷ []) ≡ 0x1100 ∷ 0x1161 ∷ 0x11a8 ∷ []
unfolding computing
syllable_of_three = refl

pub three_of_a_syllable : composed (meant letters).canonical (0x1100 ∷ 0x1161 ∷ 0x11a8 ∷ []) ≡ 0xac01 ∷ []
unfolding computing
three_of_a_syllable = refl

-- U+11A7 stands before the first trailing consonant, and is none.
pub no_trailing_consonant : composed (meant letters).canonical (0xac00 ∷ 0x11a7 ∷ []) ≡ 0xac00 ∷ 0x11a7 ∷ []
unfolding computing
no_trailing_consonant = refl
