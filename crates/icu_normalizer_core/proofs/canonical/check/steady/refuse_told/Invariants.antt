use Rattle.std.proofs.Common.{◌≡◌, ℕ, ◌<◌, slice_index}
use Rattle.std.specs.Char.{IsScalar}
use Rattle.icu_normalizer_core.specs.Boundaries.{IsSteady}
use Rattle.icu_normalizer_core.specs.CanonicalMeaning.{meaning}
use Rattle.icu_normalizer_core.specs.SteadyAnswers.{SaysYes, AreAmong}
use Rattle.icu_normalizer_core.proofs.canonical.check.steady.refuse_told.Given as goal

abbrev pub invariant-loop-code : goal.invariant-loop-code
invariant-loop-code l = record {
  among : AreAmong l.initial.answers l.answers;
  steady : (i c : ℕ) → i < l.code-index → IsScalar c → slice_index l.told i ≡ c → SaysYes l.answers c → IsSteady (meaning l.tables) c;
}
