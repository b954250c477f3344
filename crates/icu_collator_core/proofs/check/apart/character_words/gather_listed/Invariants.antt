use Rattle.icu_collator_core.proofs.apart.GatheringLemmas.{EntryAt}
use Rattle.icu_collator_core.specs.WeightLists.{Grows}
use Rattle.icu_collator_core.proofs.apart.GrowthLemmas.{UpTo}
use Rattle.icu_collator_core.proofs.check.apart.character_words.gather_listed.Given as goal

abbrev pub invariant-loop-index : goal.invariant-loop-index
invariant-loop-index l = Grows (UpTo (EntryAt l.list.items) l.index) l.fn.words.items l.words.items
