-- The maximal ranges of a map from code points.
use Rattle.std.specs.Prelude.{◌≡◌, ℕ, ◌+◌, ◌<◌, ◌≤◌, ◌≢◌, List, [], ◌∷◌, Option}
use Rattle.std.specs.Range.{range_inclusive_start, range_inclusive_end}
use Rattle.icu_codepointtrie.specs.Ranges.{IsNextRange}
use Rattle.icu_codepointtrie.specs.RangeIterators.{ranges_trie, ranges_start}
use Rattle.icu_codepointtrie.specs.declared.ranges.CodePointMapRange.{CodePointMapRange}
use Rattle.icu_codepointtrie.specs.declared.iterators.CodePointMapRangeIterator.{CodePointMapRangeIterator}

-- the range begins at start, all its code points have its value, and the next one does not
pub record IsMaximalFrom {T : Type 0} (value : ℕ → T) (start : ℕ) (r : CodePointMapRange T) : Type 0 where
  pub begins : range_inclusive_start r.range ≡ start
  pub not_empty : start ≤ range_inclusive_end r.range
  pub in_range : range_inclusive_end r.range ≤ 0x10_FFFF
  pub constant : (c : ℕ) → start ≤ c → c ≤ range_inclusive_end r.range → value c ≡ r.value
  pub differs : range_inclusive_end r.range < 0x10_FFFF → value (range_inclusive_end r.range + 1) ≢ r.value

-- ranges one after another, with no gap, from start to the last code point
abbrev pub AreMaximalFrom : {T : Type 0} → (ℕ → T) → ℕ → List (CodePointMapRange T) → Type 0
AreMaximalFrom value start [] = start ≡ 0x11_0000
AreMaximalFrom value start (r ∷ rs) = IsMaximalFrom value start r × AreMaximalFrom value (range_inclusive_end r.range + 1) rs

-- what one call of a walk over the ranges of a trie gives and leaves
abbrev pub IsRangeStep : {T : Type 0} → CodePointMapRangeIterator T → Option (CodePointMapRange T) → CodePointMapRangeIterator T → Type 0
IsRangeStep s r t = (ranges_trie t ≡ ranges_trie s) × IsNextRange (ranges_trie s) (ranges_start s) r (ranges_start t)
