use Rattle.icu_collator_core.proofs.readings.FlatReadLemmas.{IsReadSoFar}
use Rattle.icu_collator_core.proofs.checked.CheckedTables.read_flat.Given as goal

abbrev pub invariant-loop-c : goal.invariant-loop-c
invariant-loop-c g l =
    IsReadSoFar l.self l.numeric g.I.Iterator.next_gives l.fn.chars l.c-iterator l.elements.items l.last
