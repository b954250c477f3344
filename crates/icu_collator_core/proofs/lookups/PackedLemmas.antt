-- Elements of 64 bits, and what they are unpacked.
use Rattle.std.proofs.Common.{◌≡◌, ℕ, ◌+◌, ◌*◌, ◌/◌, ◌%◌, ◌^◌, List, [], ◌∷◌, ◌++◌, Option, Some, None, ◌∙◌, ap, arith}
use Rattle.std.proofs.lemmas.List.{map-append}
use Rattle.std.proofs.lemmas.Nat.{and_mask, and_mod, and_shr}
use Rattle.std.specs.Int.Bits.{bit_and}
use Rattle.std.specs.Option.{option_to_list}
use Rattle.icu_collator_types.specs.declared.elements.Element.{Element}
use Rattle.icu_collator_types.specs.ElementBits.{element_bits}
use Rattle.icu_collator_core.specs.Defaults.{primary_element}
use Rattle.icu_collator_core.specs.ElementLists.{AddsElements, unpacked}
use Rattle.icu_collator_core.specs.Pools.{element_of}
use Rattle.icu_collator_core.proofs.lookups.PartLemmas.{added_none, added_one}

-- what the element of a primary is unpacked
pub element_of_primary : (p : ℕ) → element_of (element_bits p 0x0500 0x0500) ≡ primary_element p
element_of_primary p =
    let bits = element_bits p 0x0500 0x0500 in
    let upper : bits / 2 ^ 32 ≡ p = omega arith in
    let middle : bits / 2 ^ 16 % 2 ^ 16 ≡ 0x500 = omega arith in
    let case : bits / 2 ^ 14 % 2 ^ 2 ≡ 0 = omega arith in
    let tertiary : bits / 2 ^ 8 % 2 ^ 6 * 2 ^ 8 + bits % 2 ^ 6 ≡ 0x500 = omega arith in
    let quaternary : bits / 2 ^ 6 % 2 ^ 2 ≡ 0 = omega arith in
    grind arith

-- the secondary and the tertiary within the lower half
pub secondary_of : (bits : ℕ) → bits % 2 ^ 32 / 2 ^ 16 ≡ bits / 2 ^ 16 % 2 ^ 16
secondary_of bits = omega arith

pub tertiary_of : (bits : ℕ) → bit_and (bits % 2 ^ 32) 0x3f3f ≡ bits / 2 ^ 8 % 2 ^ 6 * 2 ^ 8 + bits % 2 ^ 6
tertiary_of bits =
    let low = bits % 2 ^ 32 in
    let upper : bit_and low 0x3f3f / 2 ^ 8 ≡ low / 2 ^ 8 % 2 ^ 6 = and_shr low 0x3f3f 8 ∙ and_mask (low / 2 ^ 8) 6 in
    let lower : bit_and low 0x3f3f % 2 ^ 8 ≡ low % 2 ^ 8 % 2 ^ 6 = and_mod low 0x3f3f 8 ∙ and_mask (low % 2 ^ 8) 6 in
    omega (arith, upper, lower)

-- one element more
pub unpacked_more : (before after : List ℕ) (bits : ℕ) → after ≡ before ++ bits ∷ [] → AddsElements before (element_of bits ∷ []) after
unpacked_more before after bits e = ap (λ items. unpacked items) e ∙ map-append element_of before (bits ∷ [])

module _ (begun before after : List ℕ) (seen more : List Element) (o : Option Element) where
  -- elements to which one was added, or none
  pub adds_one : (bits : ℕ) → AddsElements begun seen before → more ≡ seen ++ option_to_list o → Some (element_of bits) ≡ o
      → after ≡ before ++ bits ∷ [] → AddsElements begun more after
  adds_one bits so_far m found e =
      added_one {A = Element} (unpacked begun) seen more (unpacked before) (unpacked after) (element_of bits) o so_far m found (unpacked_more before after bits e)

  pub adds_none : AddsElements begun seen before → more ≡ seen ++ option_to_list o → None ≡ o → after ≡ before → AddsElements begun more after
  adds_none so_far m found same =
      added_none {A = Element} (unpacked begun) seen more (unpacked before) (unpacked after) o so_far m found (ap (λ items. unpacked items) same)
