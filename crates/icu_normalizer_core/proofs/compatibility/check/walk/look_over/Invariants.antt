use Rattle.std.proofs.Common.{◌≤◌, ◌-◌}
use Rattle.icu_normalizer_core.specs.CanonicalMeaning.{lists_of}
use Rattle.icu_normalizer_core.specs.CompatibilityWalks.{AreFaultsBelow}
use Rattle.icu_normalizer_core.specs.Words.{word_lists}
use Rattle.icu_normalizer_core.proofs.compatibility.check.walk.look_over.Given as goal

abbrev pub invariant-loop-next : goal.invariant-loop-next
invariant-loop-next l = record {
  from : l.fn.looked.code ≤ l.next.code;
  to : l.next.code ≤ l.end;
  below : AreFaultsBelow (lists_of l.tables) (word_lists l.words) l.next.code l.next.faults;
}

abbrev pub decreases-loop-next : goal.decreases-loop-next
decreases-loop-next l = l.end - l.next.code
