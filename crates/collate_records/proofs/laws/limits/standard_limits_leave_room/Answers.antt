use Rattle.collate_records.proofs.reading.StandardLimitLemmas.{passes_both}
use Rattle.collate_records.proofs.laws.limits.standard_limits_leave_room.Goals as goal

pub returns : goal.returns
returns c = λ records i said lt before. passes_both records i said lt before
