use Rattle.std.proofs.Common.{◌≡◌, drop}
use Rattle.icu_collator_core.specs.SettingRules.{are_distinct}
use Rattle.collate_record_rules.proofs.settings.are_distinct.Given as goal

abbrev pub invariant-loop-i : goal.invariant-loop-i
invariant-loop-i l = are_distinct (drop l.i l.leads) ≡ are_distinct l.leads
