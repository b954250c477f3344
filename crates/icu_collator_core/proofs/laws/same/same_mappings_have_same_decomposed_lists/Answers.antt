use Rattle.icu_collator_core.proofs.readings.ReachedLemmas.{reached_decomposed}
use Rattle.icu_collator_core.proofs.laws.same.same_mappings_have_same_decomposed_lists.Goals as goal

pub returns : goal.returns
returns g a b text decomposing other mappings scalars = reached_decomposed a b text decomposing other mappings scalars
