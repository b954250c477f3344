use Rattle.std.proofs.Common.{◌≢◌, ℕ, ◌<◌, slice_index}
use Rattle.icu_normalizer_core.specs.CanonicalLists.{pair_second}
use Rattle.icu_normalizer_core.specs.SteadyAnswers.{SaysYes, AreAmong}
use Rattle.icu_normalizer_core.proofs.canonical.check.steady.refuse_seconds.Given as goal

abbrev pub invariant-loop-index : goal.invariant-loop-index
invariant-loop-index l = record {
  among : AreAmong l.initial.answers l.answers;
  unlisted : (c i : ℕ) → SaysYes l.answers c → i < l.index → pair_second (slice_index l.pairs i) ≢ c;
}
