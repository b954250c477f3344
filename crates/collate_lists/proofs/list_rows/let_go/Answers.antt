use Rattle.std.proofs.Common.{ap, ◌∙◌}
use Rattle.collate_lists.specs.Lists.{joined, starts_of}
use Rattle.collate_lists.proofs.Rows.{let_go_in}
use Rattle.collate_lists.proofs.list_rows.let_go.Goals as goal

pub returns-clause-values : goal.returns-clause-values
returns-clause-values c = ap joined c.remove.ensures.items ∙ (let_go_in c.args.lists.now.items c.args.part c.remove.result c.requires.part c.remove.ensures.value c.requires.empty).0

pub returns-clause-starts : goal.returns-clause-starts
returns-clause-starts c = ap starts_of c.remove.ensures.items ∙ (let_go_in c.args.lists.now.items c.args.part c.remove.result c.requires.part c.remove.ensures.value c.requires.empty).1
