-- the first bytes of a list as one number
use Rattle.std.specs.Prelude.{◌≡◌, ℕ, zero, suc, ◌+◌, ◌*◌, ◌^◌, ◌<◌, List, [], ◌∷◌, All}

-- the first so many bytes as a number, the first of them counting most; zeros stand for those that miss
abbrev pub first_bytes : ℕ → List ℕ → ℕ
first_bytes zero bytes = 0
first_bytes (suc n) [] = 0
first_bytes (suc n) (byte ∷ bytes) = byte * 256 ^ n + first_bytes n bytes

-- a number is the front of a list: its first eight bytes
pub record IsFrontOf (front : ℕ) (bytes : List ℕ) : Type 0 where
  pub value : front ≡ first_bytes 8 bytes
  pub are_bytes : All (λ byte. byte < 256) bytes
