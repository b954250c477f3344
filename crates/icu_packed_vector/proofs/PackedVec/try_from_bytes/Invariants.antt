use Rattle.std.proofs.Common.{ℕ, ◌<◌}
use Rattle.icu_packed_vector.specs.Items.{item_bytes}
use Rattle.icu_packed_vector.proofs.PackedVec.try_from_bytes.Given as goal

abbrev pub invariant-loop-index : goal.invariant-loop-index
invariant-loop-index g l = (k : ℕ) → k < l.index → g.T.PackedItem.is_encoding (item_bytes g.T.PackedItem.WIDTH l.bytes k)
