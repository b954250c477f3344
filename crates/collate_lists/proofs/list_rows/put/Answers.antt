use Rattle.std.specs.Prelude.{is_ok}
use Rattle.collate_lists.proofs.Rows.{put_in}
use Rattle.collate_lists.proofs.list_rows.put.Goals as goal

pub returns-clause-values : goal.returns-clause-values
returns-clause-values c =
    (put_in c.args.lists.now.items c.args.part c.index_mut-list.result.now c.insert.new.self c.args.index c.args.value (is_ok c.insert.result) c.requires.part c.index_mut-list.ensures.value
    c.requires.index c.requires.space c.requires.room c.insert.ensures.succeeds c.insert.ensures.items).0

pub returns-clause-starts : goal.returns-clause-starts
returns-clause-starts c =
    (put_in c.args.lists.now.items c.args.part c.index_mut-list.result.now c.insert.new.self c.args.index c.args.value (is_ok c.insert.result) c.requires.part c.index_mut-list.ensures.value
    c.requires.index c.requires.space c.requires.room c.insert.ensures.succeeds c.insert.ensures.items).1
