-- The bytes of a number have its value.
use Rattle.std.specs.Prelude.{zero, suc, List, [], ◌∷◌, length, All}
use Rattle.std.proofs.lemmas.List.Elements.{All-head, All-tail}
use Rattle.std.proofs.Common.{◌≡◌, ℕ, ◌^◌, ◌<◌, sym, subst, arith, ⊎_elim}
use Rattle.std.specs.Char.{IsScalar}
use lib.Utf8.{scalar_cases}
use Rattle.icu_packed_vector.specs.Bytes.{little_endian, little_endian_bytes}

pub little_endian-bytes1 : (x : ℕ) → x < 2 ^ 8 → little_endian (little_endian_bytes 1 x) ≡ x
little_endian-bytes1 x h = omega arith

pub little_endian-bytes2 : (x : ℕ) → x < 2 ^ 16 → little_endian (little_endian_bytes 2 x) ≡ x
little_endian-bytes2 x h = omega arith

pub little_endian-bytes4 : (x : ℕ) → x < 2 ^ 32 → little_endian (little_endian_bytes 4 x) ≡ x
little_endian-bytes4 x h = omega arith

pub little_endian-bytes8 : (x : ℕ) → x < 2 ^ 64 → little_endian (little_endian_bytes 8 x) ≡ x
little_endian-bytes8 x h = omega arith

pub little_endian-bytes3 : (x : ℕ) → IsScalar x → little_endian (little_endian_bytes 3 x) ≡ x
little_endian-bytes3 x h = ⊎_elim (λ low. omega arith) (λ high. omega (arith, high.1)) (scalar_cases x h)

pub is_scalar-bytes3 : (x : ℕ) → IsScalar x → IsScalar (little_endian (little_endian_bytes 3 x))
is_scalar-bytes3 x h = subst IsScalar (sym (little_endian-bytes3 x h)) h

-- the value of bytes is below 256 to the power of their count
pub little_endian-below : (width : ℕ) (bytes : List ℕ) → All (λ byte. byte < 2 ^ 8) bytes → length bytes ≡ width → little_endian bytes < 256 ^ width
little_endian-below zero [] small e = omega arith
little_endian-below zero (b ∷ bytes) small e = absurd (omega arith)
little_endian-below (suc width) [] small e = absurd (omega arith)
little_endian-below (suc width) (b ∷ bytes) small e =
    let first : b < 256 = All-head (λ byte. byte < 2 ^ 8) b bytes small in
    let rest = little_endian-below width bytes (All-tail (λ byte. byte < 2 ^ 8) b bytes small) (omega arith) in
    omega (arith, first, rest)
