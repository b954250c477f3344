use Rattle.collate_name_list.proofs.KeptLemmas.{distinct_kept}
use Rattle.collate_name_list.proofs.name_list.NameList.keep_promise.Goals as goal

pub returns : goal.returns
returns c = distinct_kept c.self.inside c.self.invariant c.args.self.now c.self.view_is
