-- The first index from which on something holds.
use Rattle.std.specs.Prelude.{ℕ, ◌<◌, ◌≤◌, Option, MatchOption}

-- what holds at an index holds at all later ones
abbrev pub Stays : (ℕ → Type 0) → Type 0
Stays Holds = (i j : ℕ) → i ≤ j → Holds i → Holds j

-- it holds at none of so many indices
abbrev pub HoldsNowhere : (ℕ → Type 0) → ℕ → Type 0
HoldsNowhere Holds count = (i : ℕ) → i < count → Holds i → ⊥

-- it holds at an index, and at none before
abbrev pub IsFirstIndex : (ℕ → Type 0) → ℕ → ℕ → Type 0
IsFirstIndex Holds count i = (i < count) × Holds i × ((j : ℕ) → j < i → Holds j → ⊥)

-- what a search for the first index tells
abbrev pub TellsFirstIndex : (ℕ → Type 0) → ℕ → Option ℕ → Type 0
TellsFirstIndex Holds count found = Stays Holds → MatchOption found (HoldsNowhere Holds count) (IsFirstIndex Holds count)
