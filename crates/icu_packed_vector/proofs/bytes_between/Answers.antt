use Rattle.icu_packed_vector.proofs.ItemLemmas.{items_of-range, AreItems-range}
use Rattle.icu_packed_vector.proofs.bytes_between.Goals as goal

pub returns-clause-items : goal.returns-clause-items
returns-clause-items g c =
    rw (c.WIDTH.ensures, c.WIDTH-2.ensures)
    (AreItems-range g.T.PackedItem.WIDTH g.met.T.PackedItem.width_positive c.args.range.start c.args.range.end c.args.bytes.now c.requires.items c.requires.start c.requires.end)

pub returns-clause-part : goal.returns-clause-part
returns-clause-part g c =
    rw (c.WIDTH.ensures, c.WIDTH-2.ensures)
    (items_of-range g.T.PackedItem.WIDTH g.T.PackedItem.meaning g.met.T.PackedItem.width_positive c.args.range.start c.args.range.end c.args.bytes.now c.requires.items.whole c.requires.start c.requires.end)
