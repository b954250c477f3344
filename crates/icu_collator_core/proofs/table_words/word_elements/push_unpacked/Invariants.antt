use Rattle.std.specs.Prelude.{map}
use Rattle.icu_normalizer_core.specs.CanonicalWords.{items_at}
use Rattle.icu_collator_core.specs.ElementLists.{AddsElements}
use Rattle.icu_collator_core.specs.Pools.{element_of}
use Rattle.icu_collator_core.proofs.table_words.word_elements.push_unpacked.Given as goal

abbrev pub invariant-loop-i : goal.invariant-loop-i
invariant-loop-i l = AddsElements l.initial.elements.items (map element_of (items_at l.ces l.index l.i)) l.elements.items
