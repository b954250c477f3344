use Rattle.std.proofs.Common.{◌≡◌, ℕ, map, take}
use Rattle.std.specs.List.{list_any}
use Rattle.std.specs.Ordering.{nat_cmp}
use Rattle.std.specs.BTreeSet.{contains}
use Rattle.icu_collator_core.specs.PrimaryRanges.{range_of}
use Rattle.collate_rules.specs.GivenWeights.{has_lead}
use Rattle.collate_weight_rules.proofs.ranges.leads_of.Given as goal

abbrev pub invariant-loop-range : goal.invariant-loop-range
invariant-loop-range l = (lead : ℕ) → contains nat_cmp l.taken lead ≡ list_any (has_lead lead) (map range_of (take l.range-index l.ranges))
