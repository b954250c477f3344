use Rattle.collate_laws.proofs.LawSoundLemmas.{accepted_sound}
use Rattle.collate_laws.proofs.keys.accepted_records_are_sound.Goals as goal

pub returns : goal.returns
returns c = λ records accepted. accepted_sound records accepted
