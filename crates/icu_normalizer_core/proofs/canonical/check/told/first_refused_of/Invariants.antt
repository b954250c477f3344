use Rattle.std.proofs.Common.{ℕ, ◌≡◌, ◌<◌, true, slice_index}
use Rattle.std.specs.Char.{IsScalar}
use Rattle.icu_normalizer_core.proofs.canonical.check.told.first_refused_of.Given as goal

abbrev pub invariant-loop-code : goal.invariant-loop-code
invariant-loop-code g l = (i d : ℕ) → i < l.code-index → IsScalar d → slice_index l.told i ≡ d → goal.F-post g l.accepts d true
