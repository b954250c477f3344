use Rattle.std.proofs.Common.{◌≡◌, map, take}
use Rattle.std.specs.Prelude.{flat_map}
use Rattle.icu_collator_core.specs.PrimaryRanges.{range_of}
use Rattle.collate_lines.specs.Record.{said}
use Rattle.collate_rules.specs.GivenWeights.{ranges_of}
use Rattle.collate_weight_rules.proofs.given.given_ranges.Given as goal

abbrev pub invariant-loop-line : goal.invariant-loop-line
invariant-loop-line l = map range_of l.ranges.items ≡ flat_map ranges_of (take l.line-index (map said l.lines))
