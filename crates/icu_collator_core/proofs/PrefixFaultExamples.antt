-- Weights that keep apart, and some that don't.
use Rattle.std.proofs.Common.{◌≡◌, ℕ, true, false, refl}
use Rattle.icu_collator_types.specs.declared.elements.Element.{Element}
use Rattle.icu_collator_core.specs.Numbers.{without_last_zeros}
use Rattle.icu_collator_core.specs.WeightRules.{are_apart_elements, is_beside_ranged, is_proper_beginning}

letter : ℕ → ℕ → Element
letter primary secondary =
    record { primary = primary; secondary = secondary; case = 0; tertiary = 0x500; quaternary = 0 }

neighbours : are_apart_elements (letter 0x2a10_0000 0x500) (letter 0x2a20_0000 0x500) ≡ true
unfolding letter is_proper_beginning without_last_zeros
neighbours = refl

-- 2A 10 begins 2A 10 20
begun_primary : are_apart_elements (letter 0x2a10_0000 0x500) (letter 0x2a10_2000 0x500) ≡ false
unfolding letter is_proper_beginning without_last_zeros
begun_primary = refl

begun_secondary : are_apart_elements (letter 0x2a10_0000 0x8820) (letter 0x2a20_0000 0x8800) ≡ false
unfolding letter is_proper_beginning without_last_zeros
begun_secondary = refl

-- the same weight twice is none that begins another
same_weight : are_apart_elements (letter 0x2a10_0000 0x500) (letter 0x2a10_0000 0x500) ≡ true
unfolding letter is_proper_beginning without_last_zeros
same_weight = refl

two_bytes_beside_range : is_beside_ranged 0xe002_0200 (letter 0xe010_0000 0x500) ≡ false
unfolding letter
two_bytes_beside_range = refl

three_bytes_beside_range : is_beside_ranged 0xe002_0200 (letter 0xe010_0200 0x500) ≡ true
unfolding letter
three_bytes_beside_range = refl

other_lead : is_beside_ranged 0xe002_0200 (letter 0x2a10_0000 0x500) ≡ true
unfolding letter
other_lead = refl
