use Rattle.std.proofs.Common.{ap, sym, ◌∙◌, length, ◌/◌}
use Rattle.icu_packed_vector.specs.Stored.{bytes_of}
use Rattle.icu_packed_vector.proofs.ItemLemmas.{length-items_of}
use Rattle.icu_packed_vector.proofs.PackedVec.as_bytes.Goals as goal

pub returns-in-Borrowed-clause-count : goal.returns-in-Borrowed-clause-count
returns-in-Borrowed-clause-count g c =
    ap length (sym c.self.view_is) ∙ length-items_of g.T.PackedItem.WIDTH g.T.PackedItem.meaning (bytes_of c.self.inside.bytes)
    ∙ ap (λ bytes. length (bytes_of bytes) / g.T.PackedItem.WIDTH) c.in-Borrowed.is

pub returns-in-Owned-clause-count : goal.returns-in-Owned-clause-count
returns-in-Owned-clause-count g c =
    ap length (sym c.self.view_is) ∙ length-items_of g.T.PackedItem.WIDTH g.T.PackedItem.meaning (bytes_of c.self.inside.bytes)
    ∙ ap (λ bytes. length (bytes_of bytes) / g.T.PackedItem.WIDTH) c.in-Owned.is
    ∙ ap (λ bytes. length bytes / g.T.PackedItem.WIDTH) (sym c.as_slice.ensures.value)
