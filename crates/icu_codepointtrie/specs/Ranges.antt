-- The ranges of one value in a trie.
use Rattle.std.specs.Prelude.{◌≡◌, ℕ, ◌+◌, ◌<◌, ◌≤◌, ◌≢◌, ◌↔◌, true, false, List, Option, Some, MatchOption}
use Rattle.std.specs.declared.ops.RangeInclusive.{RangeInclusive}
use Rattle.std.specs.Range.{range_inclusive_start, range_inclusive_end, range_inclusive_exhausted}
use Rattle.icu_codepointtrie.specs.Slots.{TrieTables, value_at}
use Rattle.icu_collections_sets.specs.CodePoints.{holds}
use Rattle.icu_codepointtrie.specs.declared.ranges.CodePointMapRange.{CodePointMapRange}

-- all code points from start to before the limit have the value
abbrev pub IsConstant : {T : Type 0} → TrieTables T → ℕ → ℕ → T → Type 0
IsConstant t start limit value = (c : ℕ) → start ≤ c → c < limit → value_at t c ≡ Some value

-- the last code point that is reached from start through code points of the value
pub record IsEndOfRange {T : Type 0} (t : TrieTables T) (start : ℕ) (value : T) (end : ℕ) : Type 0 where
  pub not_empty : start ≤ end
  pub in_range : end ≤ 0x10_FFFF
  pub constant : IsConstant t start (end + 1) value
  pub maximal : end < 0x10_FFFF → value_at t (end + 1) ≢ Some value

-- the range of one value that begins at start and goes as far as it can
pub record IsRangeFrom {T : Type 0} (t : TrieTables T) (start : ℕ) (r : CodePointMapRange T) : Type 0 where
  pub begins : range_inclusive_start r.range ≡ start
  pub whole : range_inclusive_exhausted r.range ≡ false
  pub ends : IsEndOfRange t start r.value (range_inclusive_end r.range)

-- no code point from start to before the limit has the value
abbrev pub IsAbsent : {T : Type 0} → TrieTables T → ℕ → ℕ → T → Type 0
IsAbsent t start limit value = (c : ℕ) → start ≤ c → c < limit → value_at t c ≢ Some value

-- a call that came to start gave the range of one value that begins there, and went on after it, or
-- gave `None` past the last code point, and stayed
abbrev pub IsNextRange : {T : Type 0} → TrieTables T → ℕ → Option (CodePointMapRange T) → ℕ → Type 0
IsNextRange t start r next = MatchOption r ((0x10_FFFF < start) × (next ≡ start))
    (λ range. IsRangeFrom t start range × (next ≡ range_inclusive_end range.range + 1))

-- a call that came to start gave the next range of the value, and went on after it, or gave `None`
-- where no code point has it any more, and went past the last code point
abbrev pub IsNextRangeOf : {T : Type 0} → TrieTables T → T → ℕ → Option (RangeInclusive ℕ) → ℕ → Type 0
IsNextRangeOf t value start r next = MatchOption r (IsAbsent t start 0x11_0000 value × (0x11_0000 ≤ next))
    (λ range. (start ≤ range_inclusive_start range) × (range_inclusive_exhausted range ≡ false)
    × IsAbsent t start (range_inclusive_start range) value
    × IsEndOfRange t (range_inclusive_start range) value (range_inclusive_end range)
    × (next ≡ range_inclusive_end range + 1))

-- the set holds the code points below the limit that have the value, and no others
abbrev pub IsPreimageBelow : {T : Type 0} → TrieTables T → T → ℕ → List ℕ → Type 0
IsPreimageBelow t value limit set = (c : ℕ) → (holds set c ≡ true) ↔ ((c < limit) × (c ≤ 0x10_FFFF) × (value_at t c ≡ Some value))

-- the set holds the code points that have the value, and no others
abbrev pub IsPreimage : {T : Type 0} → TrieTables T → T → List ℕ → Type 0
IsPreimage t value set = (c : ℕ) → (holds set c ≡ true) ↔ ((c ≤ 0x10_FFFF) × (value_at t c ≡ Some value))
