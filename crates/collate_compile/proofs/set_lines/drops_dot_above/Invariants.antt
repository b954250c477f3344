use Rattle.std.proofs.Common.{◌≡◌, map, drop, false}
use Rattle.collate_lines.specs.Record.{said}
use Rattle.collate_rules.specs.Meaning.{dot_above_in, set_to}
use Rattle.collate_compile.proofs.set_lines.drops_dot_above.Given as goal

abbrev pub invariant-loop-line : goal.invariant-loop-line
invariant-loop-line l = set_to dot_above_in false (map said (drop l.line-index l.lines)) ≡ set_to dot_above_in false
    (map said l.lines)
