-- Numbers as bytes, the least byte first.
use Rattle.std.specs.Prelude.{ℕ, suc, zero, ◌+◌, ◌*◌, ◌/◌, ◌%◌, List, [], ◌∷◌}

-- the number that the bytes are, the least byte first
abbrev pub little_endian : List ℕ → ℕ
little_endian [] = 0
little_endian (b ∷ bs) = b + 256 * little_endian bs

-- the number in this many bytes, the least byte first
abbrev pub little_endian_bytes : ℕ → ℕ → List ℕ
little_endian_bytes zero x = []
little_endian_bytes (suc width) x = x % 256 ∷ little_endian_bytes width (x / 256)
