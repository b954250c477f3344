use Rattle.std.proofs.Common.{◌∙◌, sym}
use Rattle.collate_lists.proofs.Ranks.{length-ranks}
use Rattle.collate_lists.proofs.starts.Starts.len.Goals as goal

pub returns : goal.returns
returns c = c.len.ensures ∙ c.args.self.now.offsets.ok.0 ∙ sym (length-ranks c.args.self.now.bases.items 0 c.args.self.now.offsets.items)
