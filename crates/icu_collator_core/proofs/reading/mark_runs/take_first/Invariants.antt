use Rattle.std.proofs.Common.{◌≡◌, [], take}
use Rattle.icu_collator_core.specs.MarkRuns.{marks_left}
use Rattle.icu_collator_core.proofs.reading.mark_runs.take_first.Given as goal

abbrev pub invariant-loop-i : goal.invariant-loop-i
invariant-loop-i l =
    record {
      same : l.classes ≡ l.initial.classes;
      empty : marks_left (take l.i l.classes) ≡ [];
    }
