use Rattle.std.proofs.Common.{◌≡◌, ◌^◌, ◌<◌, ◌≤◌, ◌∙◌, All, ap, length, sym, subst, arith, insert}
use Rattle.std.specs.Prelude.{is_ok}
use Rattle.std.proofs.lemmas.List.Edits.{length-insert}
use Rattle.collate_lists.specs.Starts.{ranks_of}
use Rattle.collate_lists.proofs.Rows.{All-insert, done_is}
use Rattle.collate_lists.proofs.Ranks.{length-ranks, ranks_fit, ranks_settled}
use Rattle.collate_lists.proofs.starts.Starts.insert.Goals as goal

pub returns-clause-ranks : goal.returns-clause-ranks
returns-clause-ranks c =
    let old = ranks_of c.args.self.now in
    let settled = c.settle.new.self.offsets in
    let new = insert settled.items c.args.index c.args.rank in
    let long : length settled.items ≡ length c.args.self.now.offsets.items = ap length c.settle.ensures.offsets ∙ length-ranks c.args.self.now.bases.items 0 c.args.self.now.offsets.items in
    let made : c.insert.new.self.items ≡ new =
    done_is (is_ok c.insert.result) new settled.items c.insert.new.self.items (c.insert.ensures.succeeds (omega (arith, long, settled.ok.0, c.requires.room.offsets, c.settle.ensures.memory))) c.insert.ensures.items in
    let is : c.insert.new.self.items ≡ insert old c.args.index c.args.rank = made ∙ ap (λ xs. insert xs c.args.index c.args.rank) c.settle.ensures.offsets in
    let fit : All (λ rank. rank < 2 ^ 64) c.insert.new.self.items =
    subst (All (λ rank. rank < 2 ^ 64)) (sym is) (All-insert (λ rank. rank < 2 ^ 64) old c.args.index c.args.rank (ranks_fit c.args.self.now.bases.items 0 c.args.self.now.offsets.items) c.ranges.rank.fits) in
    ranks_settled c.settle.new.self.bases.items 0 c.insert.new.self.items c.settle.ensures.bases fit ∙ is

pub returns-clause-based : goal.returns-clause-based
returns-clause-based c =
    let settled = c.settle.new.self.offsets in
    let new = insert settled.items c.args.index c.args.rank in
    let long : length settled.items ≡ length c.args.self.now.offsets.items = ap length c.settle.ensures.offsets ∙ length-ranks c.args.self.now.bases.items 0 c.args.self.now.offsets.items in
    let made : c.insert.new.self.items ≡ new =
    done_is (is_ok c.insert.result) new settled.items c.insert.new.self.items (c.insert.ensures.succeeds (omega (arith, long, settled.ok.0, c.requires.room.offsets, c.settle.ensures.memory))) c.insert.ensures.items in
    let within : c.args.index ≤ length settled.items = omega (arith, c.requires.index, ap length c.settle.ensures.offsets) in
    omega (arith, ap length made, length-insert settled.items c.args.index c.args.rank within, long, c.requires.room.bases, c.settle.ensures.count)
