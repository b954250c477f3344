use Rattle.collate_record_rules.proofs.records.RecordSettingLemmas.{IsKept}
use Rattle.collate_record_rules.proofs.settings.first_bad_setting.Given as goal

abbrev pub invariant-loop-i : goal.invariant-loop-i
invariant-loop-i l = IsKept l.lead l.records l.i
