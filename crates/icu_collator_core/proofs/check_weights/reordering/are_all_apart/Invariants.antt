use Rattle.std.proofs.Common.{ℕ, ◌<◌}
use Rattle.icu_collator_core.specs.ReorderingTests.{AreApartUnder}
use Rattle.icu_collator_core.proofs.check_weights.reordering.are_all_apart.Given as goal

abbrev pub invariant-loop-second : goal.invariant-loop-second
invariant-loop-second l = (other : ℕ) → other < l.second → AreApartUnder l.reordering other
