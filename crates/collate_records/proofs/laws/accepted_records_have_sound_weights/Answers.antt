use Rattle.collate_records.proofs.reading.ReadingSoundWeightLemmas.{accepted_weights}
use Rattle.collate_records.proofs.laws.accepted_records_have_sound_weights.Goals as goal

pub returns : goal.returns
returns c = λ records accepted. accepted_weights records accepted
