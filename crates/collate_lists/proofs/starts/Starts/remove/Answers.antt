use Rattle.std.proofs.Common.{◌≡◌, ◌^◌, ◌<◌, ◌∙◌, All, ap, length, sym, subst, arith, remove}
use Rattle.std.proofs.lemmas.List.Edits.{length-remove}
use Rattle.collate_lists.specs.Starts.{ranks_of}
use Rattle.collate_lists.proofs.Rows.{All-remove}
use Rattle.collate_lists.proofs.Ranks.{length-ranks, ranks_fit, ranks_settled}
use Rattle.collate_lists.proofs.starts.Starts.remove.Goals as goal

pub returns-clause-ranks : goal.returns-clause-ranks
returns-clause-ranks c =
    let old = ranks_of c.args.self.now in
    let is : c.remove.new.self.items ≡ remove old c.args.index = c.remove.ensures.items ∙ ap (λ xs. remove xs c.args.index) c.settle.ensures.offsets in
    let fit : All (λ rank. rank < 2 ^ 64) c.remove.new.self.items =
    subst (All (λ rank. rank < 2 ^ 64)) (sym is) (All-remove (λ rank. rank < 2 ^ 64) old c.args.index (ranks_fit c.args.self.now.bases.items 0 c.args.self.now.offsets.items)) in
    ranks_settled c.settle.new.self.bases.items 0 c.remove.new.self.items c.settle.ensures.bases fit ∙ is

pub returns-clause-based : goal.returns-clause-based
returns-clause-based c =
    let settled = c.settle.new.self.offsets.items in
    let within : c.args.index < length settled = omega (arith, c.requires.index, ap length c.settle.ensures.offsets) in
    omega (
      arith,
      ap length c.remove.ensures.items,
      length-remove settled c.args.index within,
      ap length c.settle.ensures.offsets,
      length-ranks c.args.self.now.bases.items 0 c.args.self.now.offsets.items,
      c.requires.based,
      c.settle.ensures.count,
    )
