-- Rules that lines break together: the lines up to one are asked.
use Rattle.std.specs.Prelude.{◌≡◌, ℕ, ◌+◌, ◌<◌, Bool, true, List, ◌++◌, length, take}
use Rattle.collate_lines.specs.Record.{Record}

-- further lines heal nothing
abbrev pub IsLasting : (List Record → Bool) → Type 0
IsLasting breach = (lines more : List Record) → breach lines ≡ true → breach (lines ++ more) ≡ true

-- the lines up to none break a rule
abbrev pub NoneBreak : (List Record → Bool) → List Record → Type 0
NoneBreak breach records = (i : ℕ) → i < length records → breach (take (i + 1) records) ≡ true → ⊥

-- the lines up to line i do, and those up to no line before it
abbrev pub IsFirstBreak : (List Record → Bool) → List Record → ℕ → Type 0
IsFirstBreak breach records i =
    (i < length records) × (breach (take (i + 1) records) ≡ true) × ((j : ℕ) → j < i → breach (take (j + 1) records) ≡ true → ⊥)
