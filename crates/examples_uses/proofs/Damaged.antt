-- Bytes and units that are damaged: U+FFFD stands for each part that spells no character.
use Rattle.std.specs.Prelude.{◌≡◌, [], ◌∷◌, replicate, refl}
use Rattle.std.specs.declared.cmp.Ordering.TheVariants.{Equal, Greater}
use Rattle.icu_collator_types.specs.declared.options.Strength.TheVariants.{Primary, Identical}
use Rattle.icu_normalizer_core.specs.Decoding.{utf8_chars, utf16_chars, latin1_chars}
use Rattle.examples_uses.specs.Asked.{at_strength, order}
use Rattle.examples_uses.specs.Letters.{letters}
use Rattle.examples_uses.proofs.WorkedComputing.{computing}

-- A byte that begins no character reads as U+FFFD.
pub stray_byte_is_replaced :
    order letters (at_strength Identical) (utf8_chars (0x61 ∷ 0xff ∷ [])) (utf8_chars (0x61 ∷ 0xef ∷ 0xbf ∷ 0xbd ∷ [])) ≡ Equal
unfolding computing
stray_byte_is_replaced = refl

-- So does a surrogate without a partner.
pub lone_surrogate_is_replaced :
    order letters (at_strength Identical) (utf16_chars (0x61 ∷ 0xd800 ∷ [])) (utf16_chars (0x61 ∷ 0xfffd ∷ [])) ≡ Equal
unfolding computing
lone_surrogate_is_replaced = refl

-- The front of a character of four bytes, cut short, is one part.
pub cut_front_is_one :
    order letters (at_strength Identical) (utf8_chars (0xf0 ∷ 0x90 ∷ [])) (utf8_chars (0xef ∷ 0xbf ∷ 0xbd ∷ [])) ≡ Equal
unfolding computing
cut_front_is_one = refl

-- A surrogate in UTF-8 is three parts.
pub encoded_surrogate_is_three :
    order letters (at_strength Identical) (utf8_chars (0xed ∷ 0xa0 ∷ 0x80 ∷ [])) (replicate 3 0xfffd) ≡ Equal
unfolding computing
encoded_surrogate_is_three = refl

-- A character below U+0080 in two bytes is two parts.
pub overlong_is_two :
    order letters (at_strength Identical) (utf8_chars (0xc0 ∷ 0xaf ∷ [])) (replicate 2 0xfffd) ≡ Equal
unfolding computing
overlong_is_two = refl

-- A number past U+10FFFF is four parts.
pub past_the_last_is_four :
    order letters (at_strength Identical) (utf8_chars (0xf4 ∷ 0x90 ∷ 0x80 ∷ 0x80 ∷ [])) (replicate 4 0xfffd) ≡ Equal
unfolding computing
past_the_last_is_four = refl

-- A low surrogate before a high one is two parts.
pub turned_surrogates_are_two :
    order letters (at_strength Identical) (utf16_chars (0xdc00 ∷ 0xd800 ∷ [])) (utf16_chars (0xfffd ∷ 0xfffd ∷ [])) ≡ Equal
unfolding computing
turned_surrogates_are_two = refl

-- U+FFFD is not ignored, so the number of parts is seen.
pub three_are_above_two : order letters (at_strength Primary) (replicate 3 0xfffd) (replicate 2 0xfffd) ≡ Greater
unfolding computing
three_are_above_two = refl

-- Texts in different encodings compare by their characters.
pub latin1_is_utf16 :
    order letters (at_strength Identical) (latin1_chars (0xe1 ∷ [])) (utf16_chars (0x61 ∷ 0x301 ∷ [])) ≡ Equal
unfolding computing
latin1_is_utf16 = refl
