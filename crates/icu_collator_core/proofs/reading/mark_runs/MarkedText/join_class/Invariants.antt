use Rattle.std.proofs.Common.{◌≡◌}
use Rattle.icu_collator_core.specs.ReadWords.{table_word}
use Rattle.icu_collator_core.proofs.lookups.MarkRunLemmas.{HasJoinedFirst}
use Rattle.icu_collator_core.proofs.reading.mark_runs.MarkedText.join_class.Given as goal

abbrev pub invariant-loop-i : goal.invariant-loop-i
invariant-loop-i l =
    record {
      same : l.self.highest ≡ l.initial.self.highest;
      joined : HasJoinedFirst (table_word l.entry) l.class l.marks l.initial.self l.i l.self;
    }
