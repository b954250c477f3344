use Rattle.std.proofs.Common.{◌≡◌, ◌++◌, take}
use Rattle.icu_normalizer_core.specs.Settled.{left_items}
use Rattle.icu_normalizer_core.proofs.canonical.check.left.Left.joined.Given as goal

abbrev pub invariant-loop-i : goal.invariant-loop-i
invariant-loop-i l = left_items l.left ≡ take 9 (left_items l.fn.self ++ take l.i l.other.characters)
