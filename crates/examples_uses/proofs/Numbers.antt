-- Runs of digits, digit by digit and by value.
use Rattle.std.specs.Prelude.{◌≡◌, [], ◌∷◌, ◌++◌, replicate, refl, codes}
use Rattle.std.specs.declared.cmp.Ordering.TheVariants.{Less, Equal, Greater}
use Rattle.icu_collator_types.specs.declared.options.Strength.TheVariants.{Primary, Tertiary, Quaternary, Identical}
use Rattle.icu_collator_core.specs.Defaults.{primary_element}
use Rattle.examples_uses.specs.Asked.{at_strength, by_value, order, elements, list_of}
use Rattle.examples_uses.specs.Letters.{with_digits}
use Rattle.examples_uses.proofs.WorkedComputing.{computing}

-- Digit by digit 2 is above 1.
pub a2_is_above_a10 : order with_digits (at_strength Tertiary) (codes "a2") (codes "a10") ≡ Greater
unfolding computing
a2_is_above_a10 = refl

-- By value 2 is below 10.
pub a2_is_below_a10_by_value : order with_digits (by_value Tertiary) (codes "a2") (codes "a10") ≡ Less
unfolding computing
a2_is_below_a10_by_value = refl

-- Leading zeros count for nothing.
pub seven_with_zeros_is_seven : order with_digits (by_value Primary) (codes "0007") (codes "7") ≡ Equal
unfolding computing
seven_with_zeros_is_seven = refl

-- 99 is below 100.
pub a99_is_below_a100 : order with_digits (by_value Tertiary) (codes "a99") (codes "a100") ≡ Less
unfolding computing
a99_is_below_a100 = refl

-- Leading zeros don't count at the quaternary level either, but the characters differ.
pub a007b_is_a7b : order with_digits (by_value Quaternary) (codes "a007b") (codes "a7b") ≡ Equal
unfolding computing
a007b_is_a7b = refl

pub a007b_is_below_a7b : order with_digits (by_value Identical) (codes "a007b") (codes "a7b") ≡ Less
unfolding computing
a007b_is_below_a7b = refl

-- 254 nines are above the other numbers of as many digits, also where zeros stand before these.
pub nines_are_above_a_power_of_ten :
    order with_digits (by_value Tertiary) (replicate 254 0x39) (0x31 ∷ replicate 253 0x30) ≡ Greater
unfolding computing
nines_are_above_a_power_of_ten = refl

pub nines_are_above_a_power_of_ten_behind_zeros :
    order with_digits (by_value Tertiary) (replicate 254 0x39) (codes "000" ++ 0x31 ∷ replicate 253 0x30) ≡ Greater
unfolding computing
nines_are_above_a_power_of_ten_behind_zeros = refl

-- Names with numbers stand by value.
pub names_by_value :
    list_of with_digits (by_value Primary) (codes "a10" ∷ codes "a9" ∷ codes "a010" ∷ []) ≡ codes "a9" ∷ codes "a10" ∷ codes "a010" ∷ []
unfolding computing
names_by_value = refl

-- Zero, with as many digits as may be.
pub zero_elements : elements with_digits (by_value Primary) (codes "0") ≡ primary_element 0x10020000 ∷ []
unfolding computing
zero_elements = refl

pub zeros_elements : elements with_digits (by_value Primary) (codes "000") ≡ primary_element 0x10020000 ∷ []
unfolding computing
zeros_elements = refl

-- The last number of one byte after the lead, and the first of two.
pub elements_of_73 : elements with_digits (by_value Primary) (codes "73") ≡ primary_element 0x104b0000 ∷ []
unfolding computing
elements_of_73 = refl

pub elements_of_74 : elements with_digits (by_value Primary) (codes "74") ≡ primary_element 0x104c0200 ∷ []
unfolding computing
elements_of_74 = refl

-- The last number of two bytes, and the first of three.
pub elements_of_10233 : elements with_digits (by_value Primary) (codes "10233") ≡ primary_element 0x1073ff00 ∷ []
unfolding computing
elements_of_10233 = refl

pub elements_of_10234 : elements with_digits (by_value Primary) (codes "10234") ≡ primary_element 0x10740202 ∷ []
unfolding computing
elements_of_10234 = refl

-- The last number of three bytes, and the first that is written by pairs of digits.
pub elements_of_1042489 : elements with_digits (by_value Primary) (codes "1042489") ≡ primary_element 0x1083ffff ∷ []
unfolding computing
elements_of_1042489 = refl

pub elements_of_1042490 :
    elements with_digits (by_value Primary) (codes "1042490") ≡ primary_element 0x10840d13 ∷ primary_element 0x103bbe00 ∷ []
unfolding computing
elements_of_1042490 = refl

-- Pairs of digits: the last number of seven digits, and two powers of ten, of which trailing pairs 00 are left out.
pub elements_of_9999999 :
    elements with_digits (by_value Primary) (codes "9999999") ≡ primary_element 0x10841dd1 ∷ primary_element 0x10d1d000 ∷ []
unfolding computing
elements_of_9999999 = refl

pub elements_of_10000000 : elements with_digits (by_value Primary) (codes "10000000") ≡ primary_element 0x10841e00 ∷ []
unfolding computing
elements_of_10000000 = refl

pub elements_of_100000000 : elements with_digits (by_value Primary) (codes "100000000") ≡ primary_element 0x10850c00 ∷ []
unfolding computing
elements_of_100000000 = refl
