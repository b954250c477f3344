-- What accepted lines set is sound.
use Rattle.std.proofs.Common.{List}
use Rattle.collate_lines.specs.declared.rule.Rule.TheVariants.{Set}
use Rattle.collate_lines.specs.Record.{Record}
use Rattle.collate_rules.specs.Accepted.{AreAccepted}
use Rattle.collate_rules.specs.KeptSettings.{AreSoundlySet}
use Rattle.collate_rules.proofs.given.GrammarLemmas.{line_keeps_counts}
use Rattle.collate_record_rules.proofs.records.SoundSettingLemmas.{soundly_set}

pub accepted_soundly_set : (lines : List Record) → AreAccepted lines → AreSoundlySet lines
accepted_soundly_set lines accepted =
    soundly_set lines (λ k d h. let said = accepted.in_grammar k d h in line_keeps_counts said.0 _ said.1) (accepted.keep_rules Set)
