use Rattle.std.specs.Int.{cast_unsigned, w32}
use Rattle.icu_collator_core.specs.TableMeaning.{pools_of}
use Rattle.icu_collator_core.specs.UnsafeWords.{ReadingGives}
use Rattle.icu_collator_core.specs.WeightLists.{Grows}
use Rattle.icu_collator_core.proofs.apart.GrowthLemmas.{UpTo}
use Rattle.icu_collator_core.proofs.unsafety.EntryLemmas.{GivesAt}
use Rattle.icu_collator_core.proofs.unsafe_characters.context_texts.gather_readings.Given as goal

abbrev pub invariant-loop-index : goal.invariant-loop-index
invariant-loop-index l =
    Grows (UpTo (GivesAt (λ one d. ReadingGives (pools_of l.source) l.test.many one.0 (cast_unsigned w32 one.1) d) l.readings.items) l.index)
    l.fn.characters.items l.characters.items
