-- The numbers in the units of a unit trie, and its nodes. Each is read at an index, and there is
-- none where the units end before.
use Rattle.std.specs.Prelude.{ℕ, ◌+◌, ◌-◌, ◌*◌, ◌/◌, ◌^◌, ltb, if◌then◌else◌, List, length, slice_get, Option, Some, None}
use Rattle.icu_char16trie.specs.declared.cells.Number.{Number}

-- what follows from a value, if there is one
abbrev pub after : {A B : Type 0} → Option A → (A → Option B) → Option B
after None f = None
after (Some x) f = f x

-- one unit more, below a number of high bits
abbrev pub with_unit : List ℕ → ℕ → ℕ → Option Number
with_unit units high index = after (slice_get units index) (λ low. Some (record { value = high * 2 ^ 16 + low; end = index + 1 }))

-- two units, the high one first
abbrev pub two_units : List ℕ → ℕ → Option Number
two_units units index = after (slice_get units index) (λ high. with_unit units high (index + 1))

-- a final value or a jump, its lead without the highest bit, which ends before the index
abbrev pub final_number : List ℕ → ℕ → ℕ → Option Number
final_number units lead index =
    if ltb lead 0x4000 then Some (record { value = lead; end = index })
    else (if ltb lead 0x7fff then with_unit units (lead - 0x4000) index else two_units units index)

-- an intermediate value, whose lead of 40 to 7fff ends before the index
abbrev pub intermediate_number : List ℕ → ℕ → ℕ → Option Number
intermediate_number units lead index =
    if ltb lead 0x4040 then Some (record { value = lead / 2 ^ 6 - 1; end = index })
    else (if ltb lead 0x7fc0 then with_unit units (lead / 2 ^ 6 - 0x101) index else two_units units index)

-- how far a branch jumps to its first half
abbrev pub delta : List ℕ → ℕ → Option Number
delta units index = after (slice_get units index) (λ lead.
    if ltb lead 0xfc00 then Some (record { value = lead; end = index + 1 })
    else (if ltb lead 0xffff then with_unit units (lead - 0xfc00) (index + 1) else two_units units (index + 1)))

-- the index after a jump, which stays within the units
abbrev pub landing : List ℕ → Number → Option ℕ
landing units jump = if ltb (jump.end + jump.value) (length units) then Some (jump.end + jump.value) else None
