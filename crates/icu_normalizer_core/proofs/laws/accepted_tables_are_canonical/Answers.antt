use Rattle.icu_normalizer_core.proofs.accepted.AcceptedPairs.{canonical}
use Rattle.icu_normalizer_core.proofs.laws.accepted_tables_are_canonical.Goals as goal

pub returns : goal.returns
returns c = canonical
