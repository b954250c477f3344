use Rattle.std.proofs.Common.{sym, ◌∙◌}
use Rattle.collate_mapping_rules.proofs.full_lists.full_front.Goals as goal

pub returns-in-Some : goal.returns-in-Some
returns-in-Some c = c.requires c.args.c c.in-Some.front (sym c.get.ensures.value ∙ sym c.in-Some.ensures)
