-- What an iterator over ranges has still to go over.
use Rattle.std.specs.Prelude.{ℕ}
use Rattle.icu_codepointtrie.specs.Slots.{TrieTables}
use Rattle.icu_codepointtrie.specs.declared.iterators.CodePointMapRangeIterator.{CodePointMapRangeIterator}
use Rattle.icu_codepointtrie.specs.declared.iterators.CodePointRangesForValue.{CodePointRangesForValue}
use Rattle.icu_codepointtrie.specs.declared.iterators.CodePointMappedRanges.{CodePointMappedRanges}

-- the trie, and the first code point that is not in a range that came
abbrev pub ranges_trie : {T : Type 0} → CodePointMapRangeIterator T → TrieTables T
ranges_trie s = s.trie.now

abbrev pub ranges_start : {T : Type 0} → CodePointMapRangeIterator T → ℕ
ranges_start s = s.start

-- the trie, the value and the first code point that is still to be looked at
abbrev pub for_value_trie : {T : Type 0} → CodePointRangesForValue T → TrieTables T
for_value_trie s = s.trie.now

abbrev pub for_value_value : {T : Type 0} → CodePointRangesForValue T → T
for_value_value s = s.value

abbrev pub for_value_start : {T : Type 0} → CodePointRangesForValue T → ℕ
for_value_start s = s.start

-- the trie, the function and the first code point that is not in a range that came
abbrev pub mapped_trie : {T F : Type 0} → CodePointMappedRanges T F → TrieTables T
mapped_trie s = s.trie.now

abbrev pub mapped_map : {T F : Type 0} → CodePointMappedRanges T F → F
mapped_map s = s.map

abbrev pub mapped_start : {T F : Type 0} → CodePointMappedRanges T F → ℕ
mapped_start s = s.start
