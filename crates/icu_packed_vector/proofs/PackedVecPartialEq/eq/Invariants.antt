use Rattle.std.proofs.Common.{◌≡◌}
use Rattle.std.specs.Cmp.Lexicographic.{pointwise}
use Rattle.icu_packed_vector.proofs.PackedVecPartialEq.eq.Given as goal

abbrev pub invariant-loop-item : goal.invariant-loop-item
invariant-loop-item g l = pointwise g.T.PartialEq.eq l.self l.fn.other ≡ pointwise g.T.PartialEq.eq l.item-iterator l.others
