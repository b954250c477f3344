-- The fields of a collation element of 64 bits: a primary of 32, a secondary of 16, and 16 for case, tertiary and quaternary.
use Rattle.std.specs.Prelude.{ℕ, ◌+◌, ◌*◌, ◌/◌, ◌%◌, ◌^◌, Bool, ◌||◌, ◌==◌, bit_and}

-- the element of a primary, a secondary and what stands below
abbrev pub element_bits : ℕ → ℕ → ℕ → ℕ
element_bits primary secondary lower = primary * 2 ^ 32 + secondary * 2 ^ 16 + lower

-- the primary of a character that no table names, after those of all that are named: FE and three bytes by the code point
abbrev pub implicit_primary : ℕ → ℕ
implicit_primary c =
    0xfe000000 + (4 + (c + 1) / 18 / 254 % 251) * 2 ^ 16 + (2 + (c + 1) / 18 % 254) * 2 ^ 8 + (2 + (c + 1) % 18 * 14)

-- a mask has all bits of a field or none
abbrev pub is_whole_or_absent : ℕ → ℕ → Bool
is_whole_or_absent mask field = (bit_and mask field == field) || (bit_and mask field == 0)
