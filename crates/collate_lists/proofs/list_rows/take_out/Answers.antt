use Rattle.std.proofs.Common.{◌<◌, length, arith}
use Rattle.collate_lists.proofs.Rows.{length_at, taken_from, value_in}
use Rattle.collate_lists.proofs.list_rows.take_out.Goals as goal

pub returns-clause-value : goal.returns-clause-value
returns-clause-value c =
    let list = c.index_mut-list.result.now in
    let index : c.args.index < length list.items = omega (arith, length_at c.args.lists.now.items c.args.part list c.requires.part c.index_mut-list.ensures.value) in
    value_in c.args.lists.now.items c.args.part list c.args.index c.remove.result c.requires.part c.index_mut-list.ensures.value index c.remove.ensures.value

pub returns-clause-values : goal.returns-clause-values
returns-clause-values c =
    let list = c.index_mut-list.result.now in
    let index : c.args.index < length list.items = omega (arith, length_at c.args.lists.now.items c.args.part list c.requires.part c.index_mut-list.ensures.value) in
    (taken_from c.args.lists.now.items c.args.part list c.remove.new.self c.args.index c.requires.part c.index_mut-list.ensures.value index c.remove.ensures.items).0

pub returns-clause-starts : goal.returns-clause-starts
returns-clause-starts c =
    let list = c.index_mut-list.result.now in
    let index : c.args.index < length list.items = omega (arith, length_at c.args.lists.now.items c.args.part list c.requires.part c.index_mut-list.ensures.value) in
    (taken_from c.args.lists.now.items c.args.part list c.remove.new.self c.args.index c.requires.part c.index_mut-list.ensures.value index c.remove.ensures.items).1
