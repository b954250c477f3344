use Rattle.std.proofs.Common.{◌≡◌, ℕ, ◌%◌, bit_and}
use Rattle.std.proofs.lemmas.Nat.{and_mask}
use Rattle.std.proofs.Math.Nat.{div-div-eq-div-mul}
use Rattle.icu_packed_vector.proofs.item.U64PackedItem.write.Goals as goal

low_byte : (x : ℕ) → bit_and x 255 ≡ x % 256
low_byte x = and_mask x 8

pub returns-clause-appended : goal.returns-clause-appended
returns-clause-appended c = simp div-div-eq-div-mul (simp low_byte at c.extend_from_slice.ensures.items)
