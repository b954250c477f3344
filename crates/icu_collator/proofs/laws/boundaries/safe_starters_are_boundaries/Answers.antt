use Rattle.icu_collator_core.proofs.readings.SplitAtBoundaryLemmas.{starter_boundary}
use Rattle.icu_collator.proofs.laws.boundaries.safe_starters_are_boundaries.Goals as goal

pub returns : goal.returns
returns c = starter_boundary
