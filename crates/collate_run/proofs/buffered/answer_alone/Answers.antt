use Rattle.std.proofs.Common.{[], refl}
use Rattle.collate_run.proofs.buffered.answer_alone.Goals as goal

pub returns : goal.returns
returns c = c.answer.ensures [] ([], refl, λ _. refl)
