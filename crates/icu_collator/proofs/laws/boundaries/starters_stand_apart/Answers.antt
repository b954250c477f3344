use Rattle.icu_collator.proofs.boundaries.TableBoundaryLemmas.{starter_apart}
use Rattle.icu_collator.proofs.laws.boundaries.starters_stand_apart.Goals as goal

pub returns : goal.returns
returns c = starter_apart
