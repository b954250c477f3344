-- Ranges of characters as the rules on weights are asked of them.
use Rattle.icu_collator_core.specs.declared.weight_rules.ranges.PrimaryRange.{PrimaryRange}
use Rattle.icu_collator_core.specs.Weights.{Range}

-- the range that is given
abbrev pub range_of : PrimaryRange → Range
range_of range = record { first = range.first; last = range.last; primary = range.primary; step = range.step }
