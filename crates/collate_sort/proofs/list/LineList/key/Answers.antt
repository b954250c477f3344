use Rattle.std.proofs.Common.{◌∙◌}
use Rattle.collate_sort.proofs.ListLemmas.{key_found}
use Rattle.collate_sort.proofs.list.LineList.key.Goals as goal

pub returns : goal.returns
returns c = c.key.ensures ∙ key_found c.self.inside c.self.invariant c.args.self.now c.self.view_is c.args.index
