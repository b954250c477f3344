use Rattle.std.proofs.Common.{ℕ, ◌<◌}
use Rattle.std.specs.Bool.{IsTrue}
use Rattle.std.specs.List.{HoldsAt}
use Rattle.icu_collator_core.specs.KeyTexts.{tells}
use Rattle.icu_collator_core.proofs.check.walks.are_passed.Given as goal

abbrev pub invariant-loop-index : goal.invariant-loop-index
invariant-loop-index g l =
    (k : ℕ) → k < l.index → HoldsAt (λ one. IsTrue (tells (g.T.TextTest.test l.test) one.0)) l.readings.items k
