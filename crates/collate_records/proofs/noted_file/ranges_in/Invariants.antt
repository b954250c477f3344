use Rattle.std.proofs.Common.{◌≡◌, map, take}
use Rattle.collate_lines.specs.Record.{said}
use Rattle.collate_rules.specs.GivenWeights.{given_ranges}
use Rattle.collate_rules.specs.Meaning.{span_of}
use Rattle.collate_records.proofs.noted_file.ranges_in.Given as goal

abbrev pub invariant-loop-line : goal.invariant-loop-line
invariant-loop-line l = map span_of l.ranges.items ≡ given_ranges (map said (take l.line-index l.lines))
