use Rattle.std.proofs.Common.{◌≡◌, true, drop, take}
use Rattle.icu_normalizer_core.specs.BorrowedMeaning.{borrowed_meaning}
use Rattle.icu_collator_core.specs.MarkRuns.{are_of_class}
use Rattle.icu_collator_core.proofs.reading.mark_runs.class_end.Given as goal

abbrev pub invariant-loop-i : goal.invariant-loop-i
invariant-loop-i l = are_of_class (borrowed_meaning l.canonical).class l.class (drop l.index (take l.i l.list)) ≡ true
