-- Characters without a record: U+FFFE, syllables, jamo and ranges.
use Rattle.std.specs.Prelude.{◌≡◌, [], ◌∷◌, refl, codes}
use Rattle.std.specs.declared.cmp.Ordering.TheVariants.{Less, Equal}
use Rattle.icu_collator_types.specs.declared.options.Strength.TheVariants.{Primary, Identical}
use Rattle.icu_collator_core.specs.Defaults.{primary_element}
use Rattle.examples_uses.specs.Asked.{at_strength, order, elements}
use Rattle.examples_uses.specs.Letters.{letters, with_ideographs}
use Rattle.examples_uses.proofs.WorkedComputing.{computing}

-- U+FFFE is below all other characters, so an earlier one is below a later one.
pub earlier_end_is_below_later :
    order letters (at_strength Primary) (0xfffe ∷ 0 ∷ 0 ∷ []) (0 ∷ 0xfffe ∷ 0 ∷ []) ≡ Less
unfolding computing
earlier_end_is_below_later = refl

-- "z" has no record; its primary goes by its number.
pub elements_of_z : elements letters (at_strength Primary) (codes "z") ≡ primary_element 0xfe0408d4 ∷ []
unfolding computing
elements_of_z = refl

-- A syllable is its jamo.
pub syllable_is_its_jamo : order letters (at_strength Identical) (0xac00 ∷ []) (0x1100 ∷ 0x1161 ∷ []) ≡ Equal
unfolding computing
syllable_is_its_jamo = refl

pub elements_of_a_syllable :
    elements letters (at_strength Primary) (0xac00 ∷ []) ≡ primary_element 0xfd040200 ∷ primary_element 0xfd046300 ∷ []
unfolding computing
elements_of_a_syllable = refl

-- The first of a range has its primary, and 254 further on the second byte has moved.
pub elements_of_the_first_ideograph :
    elements with_ideographs (at_strength Primary) (0x4e00 ∷ []) ≡ primary_element 0xe0020200 ∷ []
unfolding computing
elements_of_the_first_ideograph = refl

pub elements_of_an_ideograph :
    elements with_ideographs (at_strength Primary) (0x4efe ∷ []) ≡ primary_element 0xe0030200 ∷ []
unfolding computing
elements_of_an_ideograph = refl
