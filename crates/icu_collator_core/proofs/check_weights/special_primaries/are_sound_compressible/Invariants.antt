use Rattle.std.proofs.Common.{ℕ, ◌<◌}
use Rattle.icu_collator_core.specs.WeightFaults.{KeepsCompressibleLead}
use Rattle.icu_collator_core.proofs.check_weights.special_primaries.are_sound_compressible.Given as goal

abbrev pub invariant-loop-lead : goal.invariant-loop-lead
invariant-loop-lead l = (other : ℕ) → other < l.lead → KeepsCompressibleLead l.special.last_primaries other
