use Rattle.std.proofs.Common.{◌≤◌, ◌-◌}
use Rattle.icu_normalizer_core.specs.CanonicalMeaning.{lists_of}
use Rattle.icu_normalizer_core.specs.CompatibilityWalks.{AreFaultsBelow}
use Rattle.icu_normalizer_core.specs.Words.{word_lists}
use Rattle.icu_normalizer_core.proofs.compatibility.check.walk.faults_of.Given as goal

abbrev pub invariant-loop-looked : goal.invariant-loop-looked
invariant-loop-looked l = record {
  to : l.looked.code ≤ 0x110000;
  below : AreFaultsBelow (lists_of l.tables) (word_lists l.words) l.looked.code l.looked.faults;
}

abbrev pub decreases-loop-looked : goal.decreases-loop-looked
decreases-loop-looked l = 0x110000 - l.looked.code
