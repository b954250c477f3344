use Rattle.std.proofs.Common.{◌≡◌}
use Rattle.icu_collator_core.proofs.apart.GatheringLemmas.{FromIndices}
use Rattle.icu_collator_core.specs.WeightLists.{Grows}
use Rattle.icu_collator_core.proofs.check.apart.character_words.gather_jamo.Given as goal

abbrev pub invariant-loop-index : goal.invariant-loop-index
invariant-loop-index l = Grows (FromIndices (λ own word. word ≡ own) l.tables.jamo.ce32s l.index) l.fn.words.items l.words.items
