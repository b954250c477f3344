use Rattle.std.proofs.Common.{◌<◌, length, arith, ◌∙◌, ap}
use Rattle.std.proofs.lemmas.Bool.Decides.{nat_tests}
use Rattle.icu_packed_vector.proofs.ItemLemmas.{items_of_none, first_fits, IsGood_first, items_of_first}
use Rattle.icu_packed_vector.proofs.iter.split_first.Goals as goal

pub returns-then-is_empty : goal.returns-then-is_empty
returns-then-is_empty g c =
    items_of_none g.T.PackedItem.WIDTH g.T.PackedItem.meaning c.args.bytes.now g.met.T.PackedItem.width_positive (grind (arith, nat_tests))

pub split_at-requires : goal.split_at-requires
split_at-requires g c =
    let some : 0 < length c.args.bytes.now = grind (arith, nat_tests) in
    rw c.WIDTH.ensures (first_fits g.T.PackedItem.WIDTH c.args.bytes.now g.met.T.PackedItem.width_positive c.requires.whole some).0

pub read-requires-clause-encodes : goal.read-requires-clause-encodes
read-requires-clause-encodes g c =
    let some : 0 < length c.args.bytes.now = grind (arith, nat_tests) in
    rw (c.split_at.ensures.front, c.WIDTH.ensures) (IsGood_first g.T.PackedItem.WIDTH g.met.T.PackedItem.width_positive c.args.bytes.now c.requires some).0

pub returns : goal.returns
returns g c =
    let some : 0 < length c.args.bytes.now = grind (arith, nat_tests) in
    let item = c.read.ensures.meaning ∙ ap g.T.PackedItem.meaning (rw c.WIDTH.ensures at c.split_at.ensures.front) in
    let rest = rw c.WIDTH.ensures at c.split_at.ensures.back in
    rw (item, rest) (
      items_of_first g.T.PackedItem.WIDTH g.T.PackedItem.meaning g.met.T.PackedItem.width_positive c.args.bytes.now c.requires.whole some,
      (IsGood_first g.T.PackedItem.WIDTH g.met.T.PackedItem.width_positive c.args.bytes.now c.requires some).1,
    )
