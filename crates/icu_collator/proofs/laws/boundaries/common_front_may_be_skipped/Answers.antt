use Rattle.icu_collator.proofs.boundaries.CommonFrontLemmas.{skipped_at_primary, skipped_unshifted}
use Rattle.icu_collator.proofs.laws.boundaries.common_front_may_be_skipped.Goals as goal

pub returns-clause-unshifted : goal.returns-clause-unshifted
returns-clause-unshifted c = skipped_unshifted

pub returns-clause-primary : goal.returns-clause-primary
returns-clause-primary c = skipped_at_primary
