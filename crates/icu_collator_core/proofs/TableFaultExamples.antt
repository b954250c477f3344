-- Words of each form, words of none, and indices in lists and past them.
use Rattle.std.proofs.Common.{◌≡◌, true, false, [], ◌∷◌, refl}
use Rattle.icu_collator_types.specs.declared.elements.word_tags.Tag.TheVariants.{Contraction}
use Rattle.icu_collator_core.specs.declared.check.layers.Layer.TheVariants.{Root, Tailoring}
use Rattle.icu_collator_core.specs.Defaults.{special_primary}
use Rattle.icu_collator_core.specs.Pools.{Pools}
use Rattle.icu_collator_core.specs.WordForms.{has_form, is_digit_word, is_fallback, is_own_word, keeps_special}
use Rattle.icu_collator_core.specs.WordIndices.{has_context, has_digit_word, has_items}

-- one element; three words, the last of an expansion; a context of one suffix
some : Pools
some = record {
  ces = 0x2a10_0000_0500_0500 ∷ [];
  ce32s = 0x2a10_0505 ∷ 0x8800_05c2 ∷ 0x1c6 ∷ [];
  contexts = 0x2a10 ∷ 0x0505 ∷ 0x30 ∷ 0x62 ∷ 0xffff ∷ 0x2a60 ∷ 0x0505 ∷ [];
}

simple : is_own_word some 0x2a10_0505 ≡ true
simple = refl

long_primary : is_own_word some 0x2a10_20c1 ≡ true
long_primary = refl

implicit : is_own_word some 0xcf ≡ true
implicit = refl

two_words : is_own_word some 0x2c5 ≡ true
unfolding some
two_words = refl

expansion_among_words : is_own_word some 0x3c5 ≡ false
unfolding some
expansion_among_words = refl

builder_data : is_own_word some 0xc7 ≡ false
builder_data = refl

-- the low four bits are those of an expansion, but the low byte is not
high_byte : is_own_word some 0x1d6 ≡ false
high_byte = refl

nine : is_digit_word some 0x9ca ≡ true
unfolding some
nine = refl

ten : is_digit_word some 0xaca ≡ false
unfolding some
ten = refl

-- the word of a digit may be no digit's
digit_of_expansion : is_digit_word some 0x47ca ≡ true
unfolding some
digit_of_expansion = refl

fallback_of_tailoring : is_fallback Tailoring 0xc0 ≡ true
fallback_of_tailoring = refl

fallback_of_root : is_fallback Root 0xc0 ≡ false
fallback_of_root = refl

fallback_with_more : is_fallback Tailoring 0x1c0 ≡ false
fallback_with_more = refl

own_special : keeps_special 0xfffe 0x0200_0505 ≡ true
unfolding special_primary
own_special = refl

own_special_long : keeps_special 0xfffd 0xfffd_00c1 ≡ true
unfolding special_primary
own_special_long = refl

other_special : keeps_special 0xffff 0xfffd_0505 ≡ false
unfolding special_primary
other_special = refl

ignored_special : keeps_special 0xffff 0 ≡ false
unfolding special_primary
ignored_special = refl

one_element : has_items some 0x1c6 ≡ true
unfolding some
one_element = refl

two_elements : has_items some 0x2c6 ≡ false
unfolding some
two_elements = refl

no_element : has_items some 0xc6 ≡ false
unfolding some
no_element = refl

past_ranges : has_items some 0x20ce ≡ false
unfolding some
past_ranges = refl

digit_past_words : has_digit_word some 0x67ca ≡ false
unfolding some
digit_past_words = refl

context : has_context some 0xc9 ≡ true
unfolding some
context = refl

-- a default word, and nothing after it
no_units : has_context some 0xa0c9 ≡ false
unfolding some
no_units = refl

context_form : has_form Contraction 0xa0c9 ≡ true
context_form = refl
