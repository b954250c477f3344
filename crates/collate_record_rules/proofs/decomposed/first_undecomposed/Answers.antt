use Rattle.collate_record_rules.proofs.records.RecordGrowthLemmas.{decomposed_stays}
use Rattle.collate_record_rules.proofs.decomposed.first_undecomposed.Goals as goal

pub returns : goal.returns
returns c = c.in_ok-found.ensures (decomposed_stays)
