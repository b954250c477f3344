use Rattle.std.proofs.Common.{ℕ, ◌-◌, ◌<◌, ◌≤◌}
use Rattle.std.specs.Char.{IsScalar}
use Rattle.icu_collator_core.proofs.check.refused_characters.first_refused_in.Given as goal

abbrev pub invariant-loop-code : goal.invariant-loop-code
invariant-loop-code g l = record {
  bound : l.code ≤ 0x11_0000;
  passed : (d : ℕ) → IsScalar d → d < l.code → g.T.CharacterTest.Passes l.test l.layer l.source d;
}

abbrev pub decreases-loop-code : goal.decreases-loop-code
decreases-loop-code g l = 0x11_0000 - l.code
