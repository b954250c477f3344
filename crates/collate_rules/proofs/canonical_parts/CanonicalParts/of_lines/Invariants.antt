use Rattle.std.proofs.Common.{map, take}
use Rattle.collate_lines.specs.Record.{said}
use Rattle.collate_rules.specs.CanonicalParts.{AreOf}
use Rattle.collate_rules.proofs.canonical_parts.CanonicalParts.of_lines.Given as goal

abbrev pub invariant-loop-line : goal.invariant-loop-line
invariant-loop-line l = AreOf l.parts.list.items (map said (take l.line-index l.lines))
