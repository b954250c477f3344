use Rattle.std.proofs.Common.{◌≡◌}
use Rattle.icu_codepointtrie.specs.Ranges.{IsPreimageBelow}
use Rattle.icu_codepointtrie.specs.RangeIterators.{for_value_trie, for_value_value, for_value_start}
use Rattle.icu_codepointtrie.proofs.trie.CodePointTrie.get_set_for_value.Given as goal

abbrev pub invariant-loop-range : goal.invariant-loop-range
invariant-loop-range g l = record {
  can_next : (goal.iterator-loop-range g).can_next l.range-iterator;
  is_finite : (goal.iterator-loop-range g).is_finite l.range-iterator;
  trie : for_value_trie l.range-iterator ≡ l.self;
  value : for_value_value l.range-iterator ≡ l.fn.value;
  below : IsPreimageBelow l.self l.fn.value (for_value_start l.range-iterator) l.builder;
}
