-- Numbers as units, in the least of their forms.
use Rattle.std.specs.Prelude.{ℕ, ◌+◌, ◌*◌, ◌/◌, ◌%◌, ◌^◌, ltb, if◌then◌else◌, List, [], ◌∷◌}

-- a number in two units, the high one first
abbrev pub two_unit_form : ℕ → ℕ → List ℕ
two_unit_form lead number = (lead + number / 2 ^ 16) ∷ number % 2 ^ 16 ∷ []

-- a number in two units after a lead
abbrev pub three_unit_form : ℕ → ℕ → List ℕ
three_unit_form lead number = lead ∷ two_unit_form 0 number

-- a jump, where the highest bit is 0, and a value, where it is 8000
abbrev pub number_form : ℕ → ℕ → List ℕ
number_form highest number =
    if ltb number 0x4000 then (highest + number) ∷ []
    else (if ltb number 0x3fff_0000 then two_unit_form (highest + 0x4000) number else three_unit_form (highest + 0x7fff) number)

-- a value before a node of the type
abbrev pub intermediate_form : ℕ → ℕ → List ℕ
intermediate_form kind number =
    if ltb number 0x100 then ((number + 1) * 0x40 + kind) ∷ []
    else (if ltb number 0xfe_0000 then ((number / 2 ^ 16 + 0x101) * 0x40 + kind) ∷ number % 2 ^ 16 ∷ [] else three_unit_form (0x7fc0 + kind) number)

-- how far a branch jumps to its first half
abbrev pub delta_form : ℕ → List ℕ
delta_form number =
    if ltb number 0xfc00 then number ∷ []
    else (if ltb number 0x3ff_0000 then two_unit_form 0xfc00 number else three_unit_form 0xffff number)
