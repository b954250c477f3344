-- the numbers that slots have once the empty ones are dropped
use Rattle.std.specs.Prelude.{ℕ, ◌+◌, List, [], ◌∷◌, Option, is_some, if◌then◌else◌}
use Rattle.collate_name_list.specs.declared.slots.Stored.{Stored}

-- for each slot, how many before it are full, and this many more
abbrev pub numbers_from : ℕ → List (Option Stored) → List ℕ
numbers_from number [] = []
numbers_from number (slot ∷ slots) = number ∷ numbers_from (if is_some slot then number + 1 else number) slots
