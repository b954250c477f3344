use Rattle.icu_collator_core.specs.ElementLists.{unpacked}
use Rattle.icu_collator_core.specs.PrefixFaults.{Spells}
use Rattle.icu_collator_core.specs.TableMeaning.{pools_of}
use Rattle.icu_collator_core.specs.WeightLists.{Grows}
use Rattle.icu_collator_core.proofs.apart.GatheringLemmas.{FromIndices}
use Rattle.icu_collator_core.proofs.check.apart.spelled_elements.gather_spelled.Given as goal

abbrev pub invariant-loop-index : goal.invariant-loop-index
invariant-loop-index l = Grows (FromIndices (Spells (pools_of l.source)) l.words l.index) (unpacked l.fn.elements.items) (unpacked l.elements.items)
