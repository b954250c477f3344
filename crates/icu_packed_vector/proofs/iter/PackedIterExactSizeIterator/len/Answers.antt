use Rattle.std.proofs.Common.{length, sym, ap, ◌∙◌}
use Rattle.icu_packed_vector.proofs.ItemLemmas.{length-items_of}
use Rattle.icu_packed_vector.proofs.iter.PackedIterExactSizeIterator.len.Goals as goal

pub returns-clause-value : goal.returns-clause-value
returns-clause-value g c =
    rw c.WIDTH.ensures (sym (length-items_of g.T.PackedItem.WIDTH g.T.PackedItem.meaning c.self.inside.rest.now) ∙ ap length c.self.view_is)
