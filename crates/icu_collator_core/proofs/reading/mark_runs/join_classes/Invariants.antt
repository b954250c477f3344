use Rattle.std.proofs.Common.{◌≡◌, ◌≤◌, ℕ, length, true}
use Rattle.icu_collator_core.specs.MarkRuns.{are_of_classes, marks_left}
use Rattle.icu_collator_core.specs.ReadWords.{table_word}
use Rattle.icu_collator_core.proofs.lookups.MarksLeftLemmas.{HaveMet}
use Rattle.icu_collator_core.proofs.reading.mark_runs.join_classes.Given as goal

abbrev pub invariant-loop-i : goal.invariant-loop-i
invariant-loop-i l =
    record {
      count : length l.classes ≡ length l.initial.classes;
      marks : (class : ℕ → ℕ) → are_of_classes class l.initial.classes ≡ true → are_of_classes class l.classes ≡ true;
      fewer : length (marks_left l.classes) ≤ length (marks_left l.initial.classes);
      met : HaveMet (table_word l.entry) l.initial.classes l.classes l.i l.text;
    }
