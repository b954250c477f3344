use Rattle.std.proofs.Common.{◌≤◌, ◌-◌}
use Rattle.icu_normalizer_core.specs.CanonicalMeaning.{lists_of}
use Rattle.icu_normalizer_core.specs.Plain.{TellsBelow}
use Rattle.icu_normalizer_core.proofs.canonical.check.told.tell_run.Given as goal

abbrev pub invariant-loop-next : goal.invariant-loop-next
invariant-loop-next l = record {
  from : l.fn.reached.code ≤ l.next.code;
  to : l.next.code ≤ l.end;
  below : TellsBelow (lists_of l.tables) l.told.items l.next.code l.next.index;
}

abbrev pub decreases-loop-next : goal.decreases-loop-next
decreases-loop-next l = l.end - l.next.code
