use Rattle.icu_collator.proofs.boundaries.DifferenceOrderLemmas.{front_skipped_to}
use Rattle.icu_collator.proofs.laws.boundaries.texts_compare_from_a_place.Goals as goal

pub returns : goal.returns
returns c = front_skipped_to
