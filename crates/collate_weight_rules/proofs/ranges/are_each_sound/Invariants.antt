use Rattle.std.proofs.Common.{◌≡◌, map, drop}
use Rattle.std.specs.List.{list_all}
use Rattle.icu_collator_core.specs.PlainLeads.{plain_leads}
use Rattle.icu_collator_core.specs.PrimaryRanges.{range_of}
use Rattle.icu_collator_core.specs.WeightRules.{is_sound_range}
use Rattle.collate_weight_rules.proofs.ranges.are_each_sound.Given as goal

abbrev pub invariant-loop-range : goal.invariant-loop-range
invariant-loop-range l =
    list_all (is_sound_range (plain_leads l.leads)) (map range_of (drop l.range-index l.ranges))
    ≡ list_all (is_sound_range (plain_leads l.leads)) (map range_of l.ranges)
