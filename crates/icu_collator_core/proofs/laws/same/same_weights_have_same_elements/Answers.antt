use Rattle.icu_collator_core.proofs.readings.SamenessLemmas.{elements_same}
use Rattle.icu_collator_core.proofs.laws.same.same_weights_have_same_elements.Goals as goal

pub returns : goal.returns
returns g a b v w numeric list canonical weights = elements_same a b v w numeric canonical weights list
