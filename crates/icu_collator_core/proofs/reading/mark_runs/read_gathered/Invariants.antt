use Rattle.std.proofs.Common.{◌≡◌, ◌≤◌, ◌+◌, ℕ, Option, true, length}
use Rattle.std.specs.Option.{is_some}
use Rattle.icu_collator_core.specs.MarkRuns.{are_of_classes, marks_left}
use Rattle.icu_collator_core.specs.ReadSources.{canonical_by, weights_by}
use Rattle.icu_collator_core.proofs.readings.MarkReadLemmas.{HasRunTo}
use Rattle.icu_collator_core.proofs.reading.mark_runs.read_gathered.Given as goal

abbrev pub invariant-loop-mark : goal.invariant-loop-mark
invariant-loop-mark l =
    record {
      fewer : l._mark + length (marks_left l.classes) ≤ l.end;
      marks : are_of_classes (canonical_by l.sound).class l.classes ≡ true;
      run : (numeric : Option ℕ)
          → HasRunTo (canonical_by l.sound) (weights_by numeric l.sound) (is_some numeric) l.list l.index l.end l.initial.ready.items l.classes l.ready.items;
    }
