-- Keys of numbers, by value.
use Rattle.std.specs.Prelude.{◌≡◌, ℕ, List, ◌∷◌, ◌++◌, replicate, refl, codes}
use Rattle.std.specs.declared.cmp.Ordering.TheVariants.{Greater}
use Rattle.icu_collator_types.specs.declared.options.Strength.TheVariants.{Primary}
use Rattle.examples_uses.specs.Asked.{by_value}
use Rattle.examples_uses.specs.Letters.{with_digits}
use Rattle.examples_uses.specs.Keys.{key, hex, bytes_order}
use Rattle.examples_uses.proofs.KeyRowComputing.{computing}

-- the key of a text at Primary, with numbers by value
abbrev number_key : List ℕ → List ℕ
number_key text = key with_digits (by_value Primary) text

pub key_of_0 : number_key (codes "0") ≡ hex (codes "1002")
unfolding computing
key_of_0 = refl

pub key_of_000 : number_key (codes "000") ≡ hex (codes "1002")
unfolding computing
key_of_000 = refl

pub key_of_0007 : number_key (codes "0007") ≡ number_key (codes "7")
unfolding computing
key_of_0007 = refl

pub key_of_73 : number_key (codes "73") ≡ hex (codes "104b")
unfolding computing
key_of_73 = refl

pub key_of_74 : number_key (codes "74") ≡ hex (codes "104c02")
unfolding computing
key_of_74 = refl

pub key_of_10233 : number_key (codes "10233") ≡ hex (codes "1073ff")
unfolding computing
key_of_10233 = refl

pub key_of_10234 : number_key (codes "10234") ≡ hex (codes "10740202")
unfolding computing
key_of_10234 = refl

pub key_of_1042489 : number_key (codes "1042489") ≡ hex (codes "1083ffff")
unfolding computing
key_of_1042489 = refl

pub key_of_1042490 : number_key (codes "1042490") ≡ hex (codes "10840d13103bbe")
unfolding computing
key_of_1042490 = refl

pub key_of_9999999 : number_key (codes "9999999") ≡ hex (codes "10841dd110d1d0")
unfolding computing
key_of_9999999 = refl

pub key_of_10000000 : number_key (codes "10000000") ≡ hex (codes "10841e")
unfolding computing
key_of_10000000 = refl

pub key_of_100000000 : number_key (codes "100000000") ≡ hex (codes "10850c")
unfolding computing
key_of_100000000 = refl

-- 254 nines have a greater key than a power of ten of as many digits, also where zeros stand before it.
pub nines_have_the_greater_key :
    bytes_order (number_key (replicate 254 0x39)) (number_key (0x31 ∷ replicate 253 0x30)) ≡ Greater
unfolding computing
nines_have_the_greater_key = refl

pub nines_have_the_greater_key_behind_zeros :
    bytes_order (number_key (replicate 254 0x39)) (number_key (codes "000" ++ 0x31 ∷ replicate 253 0x30)) ≡ Greater
unfolding computing
nines_have_the_greater_key_behind_zeros = refl
