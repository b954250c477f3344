use Rattle.std.proofs.Common.{List, ℕ}
use Rattle.icu_collator_core.specs.Stretches.{IsOpen}
use Rattle.icu_collator_core.proofs.readings.StretchLemmas.{HasGiven}
use Rattle.icu_collator_core.proofs.checked.CheckedTables.read_stretches.Given as goal

abbrev pub invariant-loop-c : goal.invariant-loop-c
invariant-loop-c g l =
    record {
      text : List ℕ;
      given : HasGiven l.self l.numeric g.I.Iterator.next_gives l.fn.chars l.c-iterator text;
      read : IsOpen l.self l.numeric text l.stretch l.elements.items;
    }
