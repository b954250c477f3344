use Rattle.std.proofs.Common.{◌∙◌}
use Rattle.collate_sort.proofs.ListLemmas.{line_found}
use Rattle.collate_sort.proofs.list.LineList.get.Goals as goal

pub returns : goal.returns
returns c = c.get.ensures ∙ line_found c.self.inside c.self.invariant c.args.self.now c.self.view_is c.args.index
