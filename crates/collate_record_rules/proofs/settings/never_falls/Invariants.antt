use Rattle.std.proofs.Common.{◌≡◌, ◌-◌, ◌≤◌, drop, length}
use Rattle.icu_collator_core.specs.SettingRules.{never_falls}
use Rattle.collate_record_rules.proofs.settings.never_falls.Given as goal

abbrev pub invariant-loop-index : goal.invariant-loop-index
invariant-loop-index l = record {
  within : l.index ≤ length l.groups;
  same : never_falls (drop l.index l.groups) ≡ never_falls l.groups;
}

abbrev pub decreases-loop-index : goal.decreases-loop-index
decreases-loop-index l = length l.groups - l.index
