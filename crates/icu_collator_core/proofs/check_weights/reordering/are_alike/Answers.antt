use Rattle.icu_collator_core.proofs.weights.NotedLemmas.{none_noted}
use Rattle.icu_collator_core.proofs.check_weights.reordering.are_alike.Goals as goal

pub loop-half-init : goal.loop-half-init
loop-half-init c = none_noted _ _ 256
