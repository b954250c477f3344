use Rattle.std.proofs.Common.{◌+◌, take, refl, sym, ◌∙◌}
use Rattle.collate_record_rules.proofs.records.RecordSettingLemmas.{first_broken, kept_past, kept_tested}
use Rattle.collate_record_rules.proofs.settings.first_bad_setting.Goals as goal
use Rattle.collate_record_rules.proofs.settings.first_bad_setting.Goals.{then-is_setting+in_ok-is_broken+else-is_broken, else-is_setting}

pub returns-then-is_broken : goal.returns-then-is_broken
returns-then-is_broken c =
    first_broken c.numeric_of-lead.result c.args.records.now (take (c.loop-i.i + 1) c.args.records.now) c.loop-i.i c.in_ok-is_broken.is_broken c.numeric_of-lead.ensures c.loop-i-test.true
    c.in_ok-is_broken.ensures refl c.if-is_broken.true c.loop-i.invariant

pub loop-i-preserved : goal.loop-i-preserved
loop-i-preserved c =
    elim c.if-is_setting.branch [
      | then-is_setting+in_ok-is_broken+else-is_broken w ↦
          kept_tested c.numeric_of-lead.result c.args.records.now (take (c.loop-i.i + 1) c.args.records.now) c.loop-i.i w.in_ok-is_broken.is_broken w.in_ok-is_broken.ensures
          refl w.if-is_broken.false c.loop-i.invariant
      | else-is_setting w ↦
          kept_past c.numeric_of-lead.result c.args.records.now c.loop-i.i c.index-records-i.result c.loop-i-test.true c.index-records-i.is
          (sym c.is_setting.ensures ∙ w.if-is_setting.false) c.loop-i.invariant
    ]
