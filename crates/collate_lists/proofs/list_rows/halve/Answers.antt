use Rattle.std.proofs.Common.{◌≡◌, ◌+◌, ◌≤◌, length, sym, ap, ◌∙◌, arith, length-take, length-drop}
use Rattle.std.specs.Prelude.{is_ok, vec_capacity}
use Rattle.collate_lists.proofs.Rows.{halved, length_at, room_at, AreRoomy-halved}
use Rattle.collate_lists.proofs.list_rows.halve.Goals as goal

pub returns-clause-values : goal.returns-clause-values
returns-clause-values c =
    let list = c.index_mut.result.now in
    let long : length list.items ≡ 256 + 256 = sym (length_at c.args.lists.now.items c.args.part list c.requires.part c.index_mut.ensures.value) ∙ c.requires.full in
    (halved c.args.lists.now.items c.args.part list c.cut-upper.new.list c.cut-upper.result c.insert.new.self.items 256 (is_ok c.insert.result) c.requires.part c.index_mut.ensures.value
    c.cut-upper.ensures.lower c.cut-upper.ensures.upper long (c.insert.ensures.succeeds (omega arith)) c.insert.ensures.items).0

pub returns-clause-starts : goal.returns-clause-starts
returns-clause-starts c =
    let list = c.index_mut.result.now in
    let long : length list.items ≡ 256 + 256 = sym (length_at c.args.lists.now.items c.args.part list c.requires.part c.index_mut.ensures.value) ∙ c.requires.full in
    (halved c.args.lists.now.items c.args.part list c.cut-upper.new.list c.cut-upper.result c.insert.new.self.items 256 (is_ok c.insert.result) c.requires.part c.index_mut.ensures.value
    c.cut-upper.ensures.lower c.cut-upper.ensures.upper long (c.insert.ensures.succeeds (omega arith)) c.insert.ensures.items).1

pub returns-clause-lengths : goal.returns-clause-lengths
returns-clause-lengths c =
    let list = c.index_mut.result.now in
    let long : length list.items ≡ 256 + 256 = sym (length_at c.args.lists.now.items c.args.part list c.requires.part c.index_mut.ensures.value) ∙ c.requires.full in
    (halved c.args.lists.now.items c.args.part list c.cut-upper.new.list c.cut-upper.result c.insert.new.self.items 256 (is_ok c.insert.result) c.requires.part c.index_mut.ensures.value
    c.cut-upper.ensures.lower c.cut-upper.ensures.upper long (c.insert.ensures.succeeds (omega arith)) c.insert.ensures.items).2

pub returns-clause-room : goal.returns-clause-room
returns-clause-room c =
    let list = c.index_mut.result.now in
    let low = c.cut-upper.new.list in
    let high = c.cut-upper.result in
    let memory = (room_at c.args.lists.now.items c.args.part list c.requires.part c.index_mut.ensures.value c.requires.room).1 in
    let lower : (length low.items ≤ 512) × (512 ≤ vec_capacity low) = (omega (arith, ap length c.cut-upper.ensures.lower, length-take 256 list.items), omega arith) in
    let upper : (length high.items ≤ 512) × (512 ≤ vec_capacity high) =
    (omega (arith, ap length c.cut-upper.ensures.upper, length-drop 256 list.items, length_at c.args.lists.now.items c.args.part list c.requires.part c.index_mut.ensures.value), omega arith) in
    AreRoomy-halved c.args.lists.now.items c.args.part low high c.insert.new.self.items (is_ok c.insert.result) (c.insert.ensures.succeeds (omega arith)) c.insert.ensures.items c.requires.room
    lower upper
