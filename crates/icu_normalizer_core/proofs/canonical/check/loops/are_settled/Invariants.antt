use Rattle.std.proofs.Common.{◌≡◌, ℕ, ◌<◌, slice_get, Some, None}
use Rattle.icu_normalizer_core.proofs.canonical.check.loops.are_settled.Given as goal

abbrev pub invariant-loop-left : goal.invariant-loop-left
invariant-loop-left l = (i : ℕ) → i < l.left-index → slice_get l.settled i ≡ Some None → ⊥
