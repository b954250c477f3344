-- The elements of a character that no record names: special, of a range, jamo or implicit.
use Rattle.std.specs.Prelude.{ℕ, ◌+◌, ◌-◌, ◌*◌, ◌/◌, ◌%◌, ◌^◌, Bool, cond, ◌==◌, List, [], ◌∷◌, Option, Some, None}
use Rattle.std.specs.Option.{unwrap_or}
use Rattle.icu_normalizer_core.specs.BuiltIn.{is_jamo}
use Rattle.icu_collator_types.specs.declared.elements.Element.{Element}
use Rattle.icu_collator_core.specs.Weights.{Range, Weights}

-- the weight of most characters below the primary level
abbrev pub common : ℕ
common = 0x500

-- an element with this primary, and common weights on the other levels
abbrev pub primary_element : ℕ → Element
primary_element p = record { primary = p; secondary = 0x500; case = 0; tertiary = 0x500; quaternary = 0 }

-- four bytes as a primary, the lead first
abbrev pub primary_of : ℕ → ℕ → ℕ → ℕ → ℕ
primary_of lead second third fourth = lead * 2 ^ 24 + second * 2 ^ 16 + third * 2 ^ 8 + fourth

-- U+FFFE is below all else, U+FFFD and U+FFFF are above
unfoldable pub special_primary : ℕ → Option ℕ
special_primary c =
    cond (c == 0xfffe) (Some 0x02000000)
    (cond (c == 0xfffd) (Some 0xfffd0000) (cond (c == 0xffff) (Some 0xffff0000) None))

-- A primary moved on: its third byte counts in 254 from 02, and its second in 254 from 02, under a compressible lead
-- in 251 from 04.
unfoldable pub moved_primary : Bool → ℕ → ℕ → ℕ
moved_primary compressible primary by =
    let lowest = cond compressible 4 2
    in let count = cond compressible 251 254
    in let third = primary / 2 ^ 8 % 256 - 2 + by
    in let second = primary / 2 ^ 16 % 256 - lowest + third / 254
    in primary_of (primary / 2 ^ 24) (lowest + second % count) (2 + third % 254) 0

-- the primary of a character in a range, by what leads are compressible
unfoldable pub range_primary : (ℕ → Bool) → Range → ℕ → ℕ
range_primary is_compressible range c =
    moved_primary (is_compressible (range.primary / 2 ^ 24)) range.primary ((c - range.first) * range.step)

-- the primary of a jamo
unfoldable pub jamo_primary : ℕ → ℕ
jamo_primary c = let i = c - 0x1100 in primary_of 0xfd (4 + i / 128) (2 + i % 128) 0

-- the primary of any other character
unfoldable pub implicit_primary : ℕ → ℕ
implicit_primary c =
    let x = c + 1 in primary_of 0xfe (4 + x / 18 / 254 % 251) (2 + x / 18 % 254) (2 + x % 18 * 14)

-- what a character is by itself: special, in a range, a jamo, or implicit
unfoldable pub default_primary : Weights → ℕ → ℕ
default_primary weights c =
    let unranged = cond (is_jamo c) (jamo_primary c) (implicit_primary c)
    in unwrap_or (special_primary c) (unwrap_or (weights.ranged_primary c) unranged)

-- the elements of a character without a record
abbrev pub default_elements : Weights → ℕ → List Element
default_elements weights c = primary_element (default_primary weights c) ∷ []
