use Rattle.std.proofs.Common.{◌≡◌, ◌++◌, take}
use Rattle.icu_normalizer_core.specs.Settled.{left_items}
use Rattle.icu_normalizer_core.proofs.canonical.check.full_start.start_of.Given as goal

abbrev pub invariant-loop-c : goal.invariant-loop-c
invariant-loop-c l = take 9 (left_items l.left ++ l.c-iterator) ≡ take 9 l.fn.list
