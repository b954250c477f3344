use Rattle.std.proofs.Common.{sym, ◌∙◌}
use Rattle.collate_name_list.proofs.FrontedLemmas.{length_fronted}
use Rattle.collate_name_list.proofs.KeptLemmas.{length_kept}
use Rattle.collate_name_list.proofs.name_list.NameList.len.Goals as goal

pub returns : goal.returns
returns c = c.len.ensures ∙ sym (length_fronted c.self.inside.by_key) ∙ length_kept c.self.inside c.self.invariant c.args.self.now c.self.view_is
