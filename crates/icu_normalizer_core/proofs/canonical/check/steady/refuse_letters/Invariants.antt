use Rattle.std.proofs.Common.{ℕ, ◌≤◌}
use Rattle.icu_normalizer_core.specs.SteadyAnswers.{SaysYes}
use Rattle.icu_normalizer_core.proofs.canonical.check.steady.refuse_letters.Given as goal

abbrev pub invariant-loop-code : goal.invariant-loop-code
invariant-loop-code l = (c : ℕ) → SaysYes l.answers c → 0x1161 ≤ c → l.code ≤ c
