use Rattle.std.proofs.lemmas.Slice.Eq.{slice_eq-Decides}
use Rattle.collate_records.proofs.comparing.ComparingElementLemmas.{weights_decide}
use Rattle.collate_records.proofs.changes.are_same_lists.Goals as goal

pub returns : goal.returns
returns c = slice_eq-Decides weights_decide _ _ _ c.eq.ensures
