use Rattle.std.proofs.Common.{ℕ, ◌≡◌, ◌<◌, true}
use Rattle.icu_collator_core.specs.ReorderingTests.{is_steady_half}
use Rattle.icu_collator_core.proofs.check_weights.reordering.are_steady_halves.Given as goal

abbrev pub invariant-loop-half : goal.invariant-loop-half
invariant-loop-half l = (other : ℕ) → other < l.half → is_steady_half l.reordering other ≡ true
