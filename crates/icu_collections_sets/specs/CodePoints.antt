-- Sets of code points as inversion lists: the numbers at which the set begins and ends in turn.
use Rattle.std.specs.Prelude.{◌≡◌, ℕ, zero, suc, ◌+◌, ◌-◌, ◌%◌, ◌<◌, ◌≤◌, Bool, false, not, nat_lt, nat_le, ◌&&◌, ◌||◌, if◌then◌else◌, List, [], ◌∷◌, length, slice_index_or}
use Rattle.std.specs.Range.{range_inclusive_start, range_inclusive_end}
use Rattle.std.specs.declared.ops.RangeInclusive.{RangeInclusive}

-- the numbers rise, from least on, and none is past the end of the code points
abbrev pub Rises : ℕ → List ℕ → Type 0
Rises least [] = Unit {0}
Rises least (edge ∷ edges) = (least ≤ edge) × (edge ≤ 0x110000) × Rises (edge + 1) edges

pub record IsInversionList (list : List ℕ) : Type 0 where
  pub even : length list % 2 ≡ 0
  pub rises : Rises 0 list

-- whether a code point is in, where the list begins in or out and passes to the other at each of its numbers
abbrev pub is_in : Bool → List ℕ → ℕ → Bool
is_in now [] c = now
is_in now (edge ∷ edges) c = if nat_lt c edge then now else is_in (not now) edges c

-- whether the set holds a code point
abbrev pub holds : List ℕ → ℕ → Bool
holds list c = is_in false list c

-- how many numbers below a bound pass a test
unfoldable pub count_below : (ℕ → Bool) → ℕ → ℕ
count_below test zero = 0
count_below test (suc n) = count_below test n + (if test n then 1 else 0)

-- the ranges of an inversion list, each by its first and its last code point
abbrev pub ranges_of : List ℕ → List (ℕ × ℕ)
ranges_of [] = []
ranges_of (from ∷ []) = []
ranges_of (from ∷ till ∷ edges) = (from, till - 1) ∷ ranges_of edges

-- whether a code point is in one of the ranges
abbrev pub in_ranges : List (ℕ × ℕ) → ℕ → Bool
in_ranges [] c = false
in_ranges (range ∷ ranges) c = (nat_le range.0 c && nat_le c range.1) || in_ranges ranges c

-- what a range has as its first and its last number
abbrev pub ends_of : RangeInclusive ℕ → ℕ × ℕ
ends_of range = (range_inclusive_start range, range_inclusive_end range)

-- `count` of the numbers are at most `c`
pub record IsCountUpTo (list : List ℕ) (c count : ℕ) : Type 0 where
  pub within : count ≤ length list
  pub before : (k d : ℕ) → k < count → slice_index_or list k d ≤ c
  pub behind : (k d : ℕ) → count ≤ k → k < length list → c < slice_index_or list k d
