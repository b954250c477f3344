use Rattle.std.proofs.Common.{◌≡◌, ◌≤◌, ◌-◌, true, drop, length, take}
use Rattle.icu_normalizer_core.specs.BorrowedMeaning.{borrowed_meaning}
use Rattle.icu_collator_core.specs.MarkRuns.{are_of_classes, marks_left}
use Rattle.icu_collator_core.proofs.reading.mark_runs.gather.Given as goal

abbrev pub invariant-gathering : goal.invariant-gathering
invariant-gathering l =
    record {
      begins : l.index ≤ l.end;
      within : l.end ≤ length l.list;
      left : marks_left l.classes.items ≡ drop l.index (take l.end l.list);
      marks : are_of_classes (borrowed_meaning l.canonical).class l.classes.items ≡ true;
    }

abbrev pub decreases-gathering : goal.decreases-gathering
decreases-gathering l = length l.list - l.end
