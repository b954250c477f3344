use Rattle.std.proofs.Common.{map, take}
use Rattle.collate_lines.specs.Record.{said}
use Rattle.collate_rules.specs.MappedLines.{HasMappings}
use Rattle.collate_rules.proofs.mapped.mappings_in.Given as goal

abbrev pub invariant-loop-line : goal.invariant-loop-line
invariant-loop-line l = HasMappings l.lengths (map said (take l.line-index l.lines))
