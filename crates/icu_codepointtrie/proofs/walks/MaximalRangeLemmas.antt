-- A walk over the ranges of a built trie.
use Rattle.std.proofs.Common.{◌≡◌, ℕ, ◌+◌, ◌<◌, ◌≤◌, List, [], ◌∷◌, Some, None, sym, ap, ◌∙◌, subst, arith}
use Rattle.std.specs.Iterator.{YieldsThen}
use Rattle.std.specs.Range.{range_inclusive_end}
use Rattle.icu_codepointtrie.specs.CodePointMaps.{CodePointMap, mapped}
use Rattle.icu_codepointtrie.specs.Slots.{TrieTables}
use Rattle.icu_codepointtrie.specs.BuiltTries.{IsTrieOf}
use Rattle.icu_codepointtrie.specs.Ranges.{IsRangeFrom}
use Rattle.icu_codepointtrie.specs.RangeIterators.{ranges_trie, ranges_start}
use Rattle.icu_codepointtrie.specs.MaximalRanges.{IsMaximalFrom, AreMaximalFrom, IsRangeStep}
use Rattle.icu_codepointtrie.specs.declared.ranges.CodePointMapRange.{CodePointMapRange}
use Rattle.icu_codepointtrie.specs.declared.iterators.CodePointMapRangeIterator.{CodePointMapRangeIterator}

-- a range of the trie is one of the map
maximal_range : {T : Type 0} (m : CodePointMap T) (t : TrieTables T) (start : ℕ) (r : CodePointMapRange T) → IsTrieOf m t → IsRangeFrom t start r → IsMaximalFrom (mapped m) start r
maximal_range {T} m t start r reads range =
    let low = range.ends.not_empty in
    let high = range.ends.in_range in
    record {
      begins = range.begins;
      not_empty = low;
      in_range = high;
      constant = λ c from to.
          let one : Some (mapped m c) ≡ Some r.value = sym (reads.within c (omega arith)) ∙ range.ends.constant c from (omega arith) in
          cc;
      differs = λ before same. range.ends.maximal before (reads.within (range_inclusive_end r.range + 1) (omega arith) ∙ ap (λ (v : T). Some v) same);
    }

walk_from : {T : Type 0} (m : CodePointMap T) (start end : CodePointMapRangeIterator T) (ranges : List (CodePointMapRange T))
    → IsTrieOf m (ranges_trie start) → ranges_start start ≤ 0x11_0000 → YieldsThen IsRangeStep start ranges None end → AreMaximalFrom (mapped m) (ranges_start start) ranges
walk_from {T} m start end [] reads bound (t, same, last) =
    let over : 0x10_FFFF < ranges_start start = subst (λ (x : CodePointMapRangeIterator T). 0x10_FFFF < ranges_start x) (sym same) last.1.0 in
    omega arith
walk_from {T} m start end (r ∷ rs) reads bound (t, (j, step, rest), last) =
    let range = maximal_range m (ranges_trie start) (ranges_start start) r reads step.1.0 in
    let next : ranges_start j ≡ range_inclusive_end r.range + 1 = step.1.1 in
    let high : range_inclusive_end r.range ≤ 0x10_FFFF = range.in_range in
    (range, subst (λ n. AreMaximalFrom (mapped m) n rs) next (walk_from m j end rs (subst (λ (x : TrieTables T). IsTrieOf m x) (sym step.0) reads) (omega arith) (t, rest, last)))

pub maximal_walk : {T : Type 0} (m : CodePointMap T) (start end : CodePointMapRangeIterator T) (ranges : List (CodePointMapRange T))
    → IsTrieOf m (ranges_trie start) → ranges_start start ≡ 0 → YieldsThen IsRangeStep start ranges None end → AreMaximalFrom (mapped m) 0 ranges
maximal_walk m start end ranges reads zero walk = subst (λ n. AreMaximalFrom (mapped m) n ranges) zero (walk_from m start end ranges reads (omega arith) walk)
