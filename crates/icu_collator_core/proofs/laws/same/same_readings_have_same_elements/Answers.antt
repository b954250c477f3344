use Rattle.icu_collator_core.proofs.readings.ReachedLemmas.{reached_elements}
use Rattle.icu_collator_core.proofs.laws.same.same_readings_have_same_elements.Goals as goal

pub returns : goal.returns
returns g a b v w numeric text decomposing other mappings weights scalars =
    reached_elements a b text decomposing other mappings scalars v w numeric weights
