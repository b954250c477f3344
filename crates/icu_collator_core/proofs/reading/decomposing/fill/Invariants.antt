use Rattle.icu_normalizer_core.specs.BorrowedMeaning.{borrowed_meaning}
use Rattle.icu_collator_core.proofs.readings.DecomposingLemmas.{IsMadeOf}
use Rattle.icu_collator_core.proofs.reading.decomposing.fill.Given as goal

abbrev pub invariant-loop-c : goal.invariant-loop-c
invariant-loop-c g l =
    IsMadeOf g.I.Iterator.next_gives (borrowed_meaning l.canonical) l.fn.chars l.c-iterator l.list.items l.ready
