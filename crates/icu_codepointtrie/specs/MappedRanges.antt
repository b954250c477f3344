-- The ranges of a trie whose values a function maps to one. What the function gives is a relation.
use Rattle.std.specs.Prelude.{◌≡◌, ℕ, ◌+◌, ◌<◌, ◌≤◌, Bool, true, false, Option, Some, MatchOption}
use Rattle.std.specs.Range.{range_inclusive_start, range_inclusive_end, range_inclusive_exhausted}
use Rattle.icu_codepointtrie.specs.Slots.{TrieTables, value_at}
use Rattle.icu_codepointtrie.specs.declared.ranges.CodePointMapRange.{CodePointMapRange}

module _ {T U : Type 0} (t : TrieTables T) (gives : T → U → Type 0) (eq : U → U → Bool) where
  -- the function gave this for the value of the code point
  abbrev pub IsMappedAt : ℕ → U → Type 0
  IsMappedAt c u = (v : T) × (value_at t c ≡ Some v) × gives v u

  -- the function gave what equals this, or what does not
  abbrev pub IsAlike : ℕ → U → Bool → Type 0
  IsAlike c u alike = (w : U) × IsMappedAt c w × (eq w u ≡ alike)

  -- the last code point that is reached from start through code points that are mapped alike
  pub record IsEndOfMapped (start : ℕ) (u : U) (end : ℕ) : Type 0 where
    pub not_empty : start ≤ end
    pub in_range : end ≤ 0x10_FFFF
    pub alike : (c : ℕ) → start < c → c < end + 1 → IsAlike c u true
    pub maximal : end < 0x10_FFFF → IsAlike (end + 1) u false

  -- the range that begins at start and goes as far as its code points are mapped alike
  pub record IsMappedRange (start : ℕ) (r : CodePointMapRange U) : Type 0 where
    pub begins : range_inclusive_start r.range ≡ start
    pub whole : range_inclusive_exhausted r.range ≡ false
    pub first : IsMappedAt start r.value
    pub ends : IsEndOfMapped start r.value (range_inclusive_end r.range)

  -- a call that came to start gave the range that begins there, and went on after it, or gave `None`
  -- past the last code point, and stayed
  abbrev pub IsNextMapped : ℕ → Option (CodePointMapRange U) → ℕ → Type 0
  IsNextMapped start r next = MatchOption r ((0x10_FFFF < start) × (next ≡ start))
      (λ range. IsMappedRange start range × (next ≡ range_inclusive_end range.range + 1))
