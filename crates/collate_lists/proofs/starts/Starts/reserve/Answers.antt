use Rattle.std.proofs.Common.{◌∙◌, ap}
use Rattle.collate_lists.specs.Starts.{ranks_from}
use Rattle.collate_lists.proofs.Ranks.{ranks_alike}
use Rattle.collate_lists.proofs.starts.Starts.reserve.Goals as goal

pub returns-clause-same : goal.returns-clause-same
returns-clause-same c =
    ap (λ xs. ranks_from c.add_block.new.bases.items 0 xs) c.reserve.ensures.items
    ∙ ranks_alike c.args.self.now.bases.items c.add_block.new.bases.items 0 c.args.self.now.offsets.items c.add_block.ensures.same

pub returns-in_err-add_block-clause-same : goal.returns-in_err-add_block-clause-same
returns-in_err-add_block-clause-same c = ranks_alike c.args.self.now.bases.items c.add_block.new.bases.items 0 c.args.self.now.offsets.items c.add_block.ensures.same
