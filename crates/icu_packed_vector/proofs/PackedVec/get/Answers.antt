use Rattle.std.proofs.Common.{sym}
use Rattle.icu_packed_vector.proofs.ItemLemmas.{slice_get-items_of, slice_get-items_of_past}
use Rattle.icu_packed_vector.proofs.PackedVec.get.Goals as goal

pub returns-then-index-bytes-clause-item : goal.returns-then-index-bytes-clause-item
returns-then-index-bytes-clause-item g c =
    rw (c.as_bytes-bytes.ensures.same, c.read_at.ensures.meaning)
    (sym (slice_get-items_of _ g.T.PackedItem.meaning c.as_bytes-bytes.result.now c.args.index (rw c.WIDTH.ensures at c.if-index-bytes.true)))

pub returns-else-index-bytes-clause-item : goal.returns-else-index-bytes-clause-item
returns-else-index-bytes-clause-item g c =
    rw c.as_bytes-bytes.ensures.same
    (sym (slice_get-items_of_past _ g.T.PackedItem.meaning c.as_bytes-bytes.result.now c.args.index (rw c.WIDTH.ensures at c.if-index-bytes.false)))
