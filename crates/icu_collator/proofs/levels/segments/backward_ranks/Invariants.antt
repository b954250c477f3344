use Rattle.std.proofs.Common.{◌≡◌, ◌++◌, [], drop, reverse}
use Rattle.icu_collator.specs.LevelLists.{counted_list}
use Rattle.icu_collator.proofs.lists.BackwardLemmas.{ranks_from}
use Rattle.icu_collator.proofs.levels.segments.backward_ranks.Given as goal

abbrev pub invariant-loop-element : goal.invariant-loop-element
invariant-loop-element l =
    l.list.items ++ ranks_from (reverse l.segment.items) (counted_list l.variable_end (drop l.element-index l.elements)) ≡ ranks_from [] (counted_list l.variable_end l.elements)
