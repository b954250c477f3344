use Rattle.std.proofs.Common.{◌<◌, length, arith, ◌∙◌, ap}
use Rattle.std.proofs.lemmas.Bool.Decides.{nat_tests}
use Rattle.icu_packed_vector.proofs.ItemLemmas.{items_of_none, last_fits, IsGood_last, items_of_last}
use Rattle.icu_packed_vector.proofs.iter.split_last.Goals as goal

pub returns-then-is_empty : goal.returns-then-is_empty
returns-then-is_empty g c =
    items_of_none g.T.PackedItem.WIDTH g.T.PackedItem.meaning c.args.bytes.now g.met.T.PackedItem.width_positive (grind (arith, nat_tests))

pub overflow_sub-bytes : goal.overflow_sub-bytes
overflow_sub-bytes g c =
    let some : 0 < length c.args.bytes.now = grind (arith, nat_tests) in
    rw c.WIDTH.ensures (last_fits g.T.PackedItem.WIDTH c.args.bytes.now g.met.T.PackedItem.width_positive c.requires.whole some).0

pub read-requires-clause-width : goal.read-requires-clause-width
read-requires-clause-width g c =
    let some : 0 < length c.args.bytes.now = grind (arith, nat_tests) in
    rw (c.split_at.ensures.back, c.WIDTH.ensures) (last_fits g.T.PackedItem.WIDTH c.args.bytes.now g.met.T.PackedItem.width_positive c.requires.whole some).2

pub read-requires-clause-encodes : goal.read-requires-clause-encodes
read-requires-clause-encodes g c =
    let some : 0 < length c.args.bytes.now = grind (arith, nat_tests) in
    rw (c.split_at.ensures.back, c.WIDTH.ensures) (IsGood_last g.T.PackedItem.WIDTH g.met.T.PackedItem.width_positive c.args.bytes.now c.requires some).1

pub returns : goal.returns
returns g c =
    let some : 0 < length c.args.bytes.now = grind (arith, nat_tests) in
    let item = c.read.ensures.meaning ∙ ap g.T.PackedItem.meaning (rw c.WIDTH.ensures at c.split_at.ensures.back) in
    let rest = rw c.WIDTH.ensures at c.split_at.ensures.front in
    rw (item, rest) (
      items_of_last g.T.PackedItem.WIDTH g.T.PackedItem.meaning g.met.T.PackedItem.width_positive c.args.bytes.now c.requires.whole some,
      (IsGood_last g.T.PackedItem.WIDTH g.met.T.PackedItem.width_positive c.args.bytes.now c.requires some).0,
    )
