use Rattle.std.proofs.Common.{ℕ, ◌≡◌, ◌<◌, true}
use Rattle.icu_collator_core.specs.WeightFaults.{is_sound_jamo}
use Rattle.icu_collator_core.proofs.check_weights.jamo.jamo_fault.Given as goal

abbrev pub invariant-loop-index : goal.invariant-loop-index
invariant-loop-index l = (other : ℕ) → other < l.index → is_sound_jamo l.tables other ≡ true
