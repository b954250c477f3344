use Rattle.std.proofs.Common.{◌≡◌, ◌≤◌, ◌++◌, length, take, drop}
use Rattle.icu_normalizer_core.specs.Canonical.{marks_in_order}
use Rattle.icu_normalizer_core.specs.CanonicalMeaning.{meaning}
use Rattle.icu_normalizer_core.proofs.canonical.check.marks.put_marks_in_order.Given as goal

abbrev pub invariant-loop-index : goal.invariant-loop-index
invariant-loop-index l =
    (l.index ≤ length l.list)
    × (l.list ≡ take l.index l.initial.list ++ marks_in_order (meaning l.tables).class (drop l.index l.initial.list))

abbrev pub decreases-loop-index : goal.decreases-loop-index
decreases-loop-index l = l.index
