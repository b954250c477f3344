use Rattle.collate_index.proofs.reloading.AnewLemmas.{built_anew, not_before}
use Rattle.collate_index.proofs.laws.reloaded_as_built_anew.Goals as goal

pub returns : goal.returns
returns c = record { same = built_anew; new = λ s before behind name. not_before s.arrivals before behind name }
