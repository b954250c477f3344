use Rattle.std.proofs.Common.{◌≡◌, ◌++◌}
use Rattle.icu_normalizer_core.specs.BorrowedMeaning.{borrowed_meaning}
use Rattle.icu_collator_core.specs.Decomposing.{Appends}
use Rattle.icu_collator_core.proofs.reading.decomposing.push_full_list.Given as goal

abbrev pub invariant-loop-d : goal.invariant-loop-d
invariant-loop-d l =
    record {
      appended : Appends (borrowed_meaning l.canonical).class l.fn.list.items l.ready l.yielded l.list.items l.next;
      left : l.yielded ++ l.d-iterator ≡ (borrowed_meaning l.canonical).full l.fn.c;
    }
