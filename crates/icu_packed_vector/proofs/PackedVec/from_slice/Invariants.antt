use Rattle.std.proofs.Common.{◌≡◌, take}
use Rattle.icu_packed_vector.specs.Items.{items_of, AreItems}
use Rattle.icu_packed_vector.proofs.PackedVec.from_slice.Given as goal

abbrev pub invariant-loop-item : goal.invariant-loop-item
invariant-loop-item g l =
    AreItems g.T.PackedItem.WIDTH g.T.PackedItem.is_encoding l.bytes.items
    × (items_of g.T.PackedItem.WIDTH g.T.PackedItem.meaning l.bytes.items ≡ take l.item-index l.items)
