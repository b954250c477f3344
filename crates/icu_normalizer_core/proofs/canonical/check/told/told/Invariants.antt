use Rattle.std.proofs.Common.{◌≤◌, ◌-◌}
use Rattle.icu_normalizer_core.specs.CanonicalMeaning.{lists_of}
use Rattle.icu_normalizer_core.specs.Plain.{TellsBelow}
use Rattle.icu_normalizer_core.proofs.canonical.check.told.told.Given as goal

abbrev pub invariant-loop-reached : goal.invariant-loop-reached
invariant-loop-reached l = record {
  to : l.reached.code ≤ 0x110000;
  below : TellsBelow (lists_of l.tables) l.told.items l.reached.code l.reached.index;
}

abbrev pub decreases-loop-reached : goal.decreases-loop-reached
decreases-loop-reached l = 0x110000 - l.reached.code
