-- Numbers by their digits: how large they are.
use Rattle.std.proofs.Common.{ℕ, ◌^◌, ◌<◌, ◌≤◌, arith}
use Rattle.std.proofs.Math.Nat.{pow-le-pow_right}

-- what i digits write is in the range of `most` digits
pub power_most : (base n i most : ℕ) → 0 < base → n < base ^ i → i ≤ most → n < base ^ most
power_most base n i most positive below h = let le : base ^ i ≤ base ^ most = pow-le-pow_right positive h in omega arith
