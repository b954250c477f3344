use Rattle.std.proofs.Common.{ℕ, ◌<◌}
use Rattle.std.specs.Bool.{IsTrue}
use Rattle.std.specs.Int.{cast_unsigned, w32}
use Rattle.std.specs.List.{HoldsAt}
use Rattle.icu_collator_core.proofs.check.values.all_pass.Given as goal

abbrev pub invariant-loop-index : goal.invariant-loop-index
invariant-loop-index g l =
    (k : ℕ) → k < l.index → HoldsAt (λ value. IsTrue (g.T.ValueTest.test l.test (cast_unsigned w32 value.1))) l.values.items k
