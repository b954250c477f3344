use Rattle.std.specs.Prelude.{filter_map}
use Rattle.icu_normalizer_core.specs.CanonicalWords.{items_at}
use Rattle.icu_collator_core.specs.ElementLists.{AddsElements}
use Rattle.icu_collator_core.specs.Pools.{stated_element}
use Rattle.icu_collator_core.proofs.table_words.word_elements.push_stated.Given as goal

abbrev pub invariant-loop-i : goal.invariant-loop-i
invariant-loop-i l = AddsElements l.initial.elements.items (filter_map stated_element (items_at l.ce32s l.index l.i)) l.elements.items
