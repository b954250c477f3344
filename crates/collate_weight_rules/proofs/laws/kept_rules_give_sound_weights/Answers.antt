use Rattle.collate_rules.proofs.given.GivenSoundLemmas.{sound_weights}
use Rattle.collate_weight_rules.proofs.laws.kept_rules_give_sound_weights.Goals as goal

pub returns : goal.returns
returns c = λ records widths keep. sound_weights records widths keep
