use Rattle.std.proofs.Common.{ℕ, ◌<◌, true}
use Rattle.std.specs.Char.{IsScalar}
use Rattle.icu_normalizer_core.proofs.canonical.check.least_refused.first_refused.Given as goal

abbrev pub invariant-loop-code : goal.invariant-loop-code
invariant-loop-code g l = (d : ℕ) → IsScalar d → d < l.code → goal.F-post g l.accepts d true
