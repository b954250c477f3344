-- The ranges that an inversion list leaves out.
use Rattle.std.specs.Prelude.{◌≡◌, ℕ, ◌+◌, ◌-◌, ◌%◌, ◌<◌, Bool, not, ◌&&◌, nat_lt, if◌then◌else◌, List, [], ◌∷◌, length, Option, Some, None}
use Rattle.icu_collections_sets.specs.CodePoints.{Rises, IsInversionList, holds, ranges_of}

-- where the range begins that is left out after an edge, if there is one
abbrev pub start_from : ℕ → Option ℕ
start_from edge = if nat_lt edge 0x110000 then Some edge else None

-- the ranges between the ranges of a list, the first from a start on and the last up to the last code point
abbrev pub gaps : Option ℕ → List ℕ → List (ℕ × ℕ)
gaps None edges = []
gaps (Some start) [] = (start, 0x10FFFF) ∷ []
gaps (Some start) (from ∷ []) = (start, from - 1) ∷ []
gaps (Some start) (from ∷ till ∷ edges) = (start, from - 1) ∷ gaps (start_from till) edges

-- the start is a code point below all edges
abbrev pub AreGapsFrom : Option ℕ → List ℕ → Type 0
AreGapsFrom None edges = Unit {0}
AreGapsFrom (Some start) edges = (start < 0x110000) × Rises (start + 1) edges × (length edges % 2 ≡ 0)

-- whether the last code point is in is known, while a range is left
abbrev pub IsLastHeld : Option ℕ → List ℕ → Bool → Type 0
IsLastHeld None edges held = Unit {0}
IsLastHeld (Some start) edges held = held ≡ holds edges 0x10FFFF

-- the ranges are those of the inversion list of the code points that a list leaves out
pub record AreGapsOf (list : List ℕ) (ranges : List (ℕ × ℕ)) : Type 0 where
  pub edges : List ℕ
  pub is : IsInversionList edges
  pub left_out : (c : ℕ) → holds edges c ≡ (nat_lt c 0x110000 && not (holds list c))
  pub ranges_are : ranges ≡ ranges_of edges
