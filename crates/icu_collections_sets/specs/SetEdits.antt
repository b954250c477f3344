-- What a change makes of a set of code points.
use Rattle.std.specs.Prelude.{◌≡◌, ℕ, ◌<◌, ◌≤◌, Bool, not, nat_lt, nat_le, ◌&&◌, ◌==◌, if◌then◌else◌, List, [], ◌∷◌, ◌++◌, length, slice_index_or}
use Rattle.std.specs.Range.{range_inclusive_start, range_inclusive_end, range_inclusive_exhausted}
use Rattle.std.specs.declared.ops.RangeInclusive.{RangeInclusive}
use Rattle.icu_collections_sets.specs.CodePoints.{holds}
use Rattle.icu_collections_sets.specs.Operations.{differ}

-- the code points from one number up to another, exclusive
abbrev pub is_within : ℕ → ℕ → ℕ → Bool
is_within from till c = nat_le from c && nat_lt c till

-- the new set holds these code points, or doesn't, and elsewhere what the old one held
abbrev pub IsSetTo : Bool → (ℕ → Bool) → List ℕ → List ℕ → Type 0
IsSetTo held these old new = (c : ℕ) → holds new c ≡ (if these c then held else holds old c)

-- from the edge on what was in is out, and the other way round
abbrev pub IsToggled : ℕ → List ℕ → List ℕ → Type 0
IsToggled edge old new = (c : ℕ) → holds new c ≡ differ (nat_le edge c) (holds old c)

-- the edges of a stretch: where it begins and where it ends, each if it is one
abbrev pub stretch : Bool → ℕ → Bool → ℕ → List ℕ
stretch opens from closes till = (if opens then from ∷ [] else []) ++ (if closes then till ∷ [] else [])

-- the code points of a range, none where it is empty or past the last code point
abbrev pub in_range : RangeInclusive ℕ → ℕ → Bool
in_range range c = not (range_inclusive_exhausted range) && nat_le (range_inclusive_start range) c && nat_le c (range_inclusive_end range) && nat_lt c 0x110000

-- this code point alone, and none for a number past the last
abbrev pub is_code_point : ℕ → ℕ → Bool
is_code_point only c = (c == only) && nat_lt c 0x110000

-- `count` of the numbers are below the bound
pub record IsCountBelow (list : List ℕ) (bound count : ℕ) : Type 0 where
  pub within : count ≤ length list
  pub before : (k d : ℕ) → k < count → slice_index_or list k d < bound
  pub behind : (k d : ℕ) → count ≤ k → k < length list → bound ≤ slice_index_or list k d
