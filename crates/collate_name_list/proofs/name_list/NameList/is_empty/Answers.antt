use Rattle.std.proofs.Common.{sym, ◌∙◌, ap, eqb}
use Rattle.collate_name_list.proofs.FrontedLemmas.{length_fronted}
use Rattle.collate_name_list.proofs.KeptLemmas.{length_kept}
use Rattle.collate_name_list.proofs.name_list.NameList.is_empty.Goals as goal

pub returns : goal.returns
returns c = ap (λ n. eqb n 0) (c.len.ensures ∙ sym (length_fronted c.self.inside.by_key) ∙ length_kept c.self.inside c.self.invariant c.args.self.now c.self.view_is)
