-- Scalar values as numbers.
use Rattle.std.proofs.Common.{ℕ, ◌<◌, ⊎_elim, arith}
use Rattle.std.specs.Char.{IsScalar}
use lib.Utf8.{scalar_cases}

pub scalar_below : (c : ℕ) → IsScalar c → c < 0x110000
scalar_below c s = ⊎_elim (λ low. omega arith) (λ high. high.1) (scalar_cases c s)
