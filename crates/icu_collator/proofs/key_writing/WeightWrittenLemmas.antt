-- The bytes of single weights, by how many of them are written.
use Rattle.std.proofs.Common.{◌≡◌, ◌≢◌, ℕ, ◌<◌, ◌/◌, ◌%◌, ◌^◌, true, false, ◌==◌, [], ◌∷◌, ◌++◌, Some, refl, sym, ◌∙◌, arith, bit_and}
use Rattle.std.proofs.lemmas.Bool.Decides.{nat_tests}
use Rattle.std.proofs.lemmas.Nat.{and_mask}
use Rattle.icu_collator_core.specs.Numbers.{without_last_zeros}
use Rattle.icu_collator_core.specs.WeightRules.{primary_bytes, primary_rest}
use Rattle.icu_collator.specs.KeyBytes.{primary_code, run_end}
use Rattle.icu_collator.proofs.keys.WeightBytesLemmas.{rest_one, rest_two, rest_three}

zeros_go : without_last_zeros (0 ∷ 0 ∷ 0 ∷ []) ≡ []
unfolding without_last_zeros
zeros_go = refl

pub none_behind : (p : ℕ) → bit_and p 0xffffff ≡ 0 → primary_rest p ≡ []
none_behind p none =
    let low : p % 2 ^ 24 ≡ 0 = sym (and_mask p 24) ∙ none in
    let first : p / 2 ^ 16 % 256 ≡ 0 = omega (arith, low) in
    let second : p / 2 ^ 8 % 256 ≡ 0 = omega (arith, low) in
    let third : p % 256 ≡ 0 = omega (arith, low) in
    rw (first, second, third) zeros_go

pub one_behind : (p : ℕ) → bit_and p 0xffffff ≢ 0 → bit_and p 0xffff ≡ 0 → primary_rest p ≡ bit_and (p / 2 ^ 16) 0xff ∷ []
one_behind p some none =
    let masked : bit_and (p / 2 ^ 16) 0xff ≡ p / 2 ^ 16 % 256 = and_mask (p / 2 ^ 16) 8 in
    let low : p % 2 ^ 16 ≡ 0 = sym (and_mask p 16) ∙ none in
    let more : p % 2 ^ 24 ≢ 0 = λ e. some (and_mask p 24 ∙ e) in
    let first : 0 < p / 2 ^ 16 % 256 = omega (arith, low, more) in
    let second : p / 2 ^ 8 % 256 ≡ 0 = omega (arith, low) in
    let third : p % 256 ≡ 0 = omega (arith, low) in
    rw (masked, second, third) (rest_one (p / 2 ^ 16 % 256) first)

pub two_behind :
    (p : ℕ) → bit_and p 0xffff ≢ 0 → bit_and p 0xff ≡ 0 → primary_rest p ≡ bit_and (p / 2 ^ 16) 0xff ∷ bit_and (p / 2 ^ 8) 0xff ∷ []
two_behind p some none =
    let masked : bit_and (p / 2 ^ 16) 0xff ≡ p / 2 ^ 16 % 256 = and_mask (p / 2 ^ 16) 8 in
    let masked_too : bit_and (p / 2 ^ 8) 0xff ≡ p / 2 ^ 8 % 256 = and_mask (p / 2 ^ 8) 8 in
    let low : p % 2 ^ 8 ≡ 0 = sym (and_mask p 8) ∙ none in
    let more : p % 2 ^ 16 ≢ 0 = λ e. some (and_mask p 16 ∙ e) in
    let second : 0 < p / 2 ^ 8 % 256 = omega (arith, low, more) in
    let third : p % 256 ≡ 0 = low in
    rw (masked, masked_too, third) (rest_two (p / 2 ^ 16 % 256) (p / 2 ^ 8 % 256) second)

pub three_behind :
    (p : ℕ) → bit_and p 0xff ≢ 0
    → primary_rest p ≡ bit_and (p / 2 ^ 16) 0xff ∷ bit_and (p / 2 ^ 8) 0xff ∷ bit_and p 0xff ∷ []
three_behind p some =
    let masked : bit_and (p / 2 ^ 16) 0xff ≡ p / 2 ^ 16 % 256 = and_mask (p / 2 ^ 16) 8 in
    let masked_too : bit_and (p / 2 ^ 8) 0xff ≡ p / 2 ^ 8 % 256 = and_mask (p / 2 ^ 8) 8 in
    let masked_last : bit_and p 0xff ≡ p % 256 = and_mask p 8 in
    let more : p % 256 ≢ 0 = λ e. some (masked_last ∙ e) in
    let third : 0 < p % 256 = omega (arith, more) in
    rw (masked, masked_too, masked_last) (rest_three (p / 2 ^ 16 % 256) (p / 2 ^ 8 % 256) (p % 256) third)

-- a primary after a run of its own lead, and after one of another
pub inside_run : (before p : ℕ) → p / 2 ^ 24 ≡ before → primary_code (Some before) p ≡ primary_rest p
unfolding primary_code
inside_run before p same =
    let test : (p / 2 ^ 24 == before) ≡ true = grind (arith, nat_tests) in
    rw test refl

pub behind_run_end : (before p : ℕ) → p / 2 ^ 24 ≢ before → primary_code (Some before) p ≡ run_end before (p / 2 ^ 24) ++ primary_bytes p
unfolding primary_code
behind_run_end before p other =
    let test : (p / 2 ^ 24 == before) ≡ false = grind (arith, nat_tests) in
    rw test refl
