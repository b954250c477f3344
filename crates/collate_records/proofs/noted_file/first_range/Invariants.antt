use Rattle.std.proofs.Common.{◌≡◌, map, drop}
use Rattle.collate_rules.specs.Meaning.{first_found, span_of}
use Rattle.collate_compile.specs.NotedLines.{held_by}
use Rattle.collate_records.proofs.noted_file.first_range.Given as goal

abbrev pub invariant-loop-range : goal.invariant-loop-range
invariant-loop-range l =
    first_found (held_by l.c) (map span_of (drop l.range-index l.ranges)) ≡ first_found (held_by l.c) (map span_of l.ranges)
