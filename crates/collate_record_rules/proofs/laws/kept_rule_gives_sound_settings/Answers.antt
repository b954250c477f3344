use Rattle.collate_record_rules.proofs.records.SoundSettingLemmas.{soundly_set}
use Rattle.collate_record_rules.proofs.laws.kept_rule_gives_sound_settings.Goals as goal

pub returns : goal.returns
returns c = λ records counts keep. soundly_set records counts keep
