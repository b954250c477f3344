use Rattle.std.proofs.Common.{suc}
use Rattle.icu_collator_core.specs.TableMeaning.{pools_of}
use Rattle.icu_collator_core.specs.UnsafeWords.{ContextGives}
use Rattle.icu_collator_core.specs.WeightLists.{Grows}
use Rattle.icu_collator_core.proofs.apart.GrowthLemmas.{UpTo}
use Rattle.icu_collator_core.proofs.unsafe_characters.context_texts.gather_all.Given as goal

abbrev pub invariant-loop-index : goal.invariant-loop-index
invariant-loop-index l =
    Grows (UpTo (λ k d. ContextGives (pools_of l.source) (suc k) 0 l.word d) l.index) l.fn.characters.items l.characters.items
