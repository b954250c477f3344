use Rattle.std.proofs.Common.{◌≡◌, map, drop, false}
use Rattle.collate_lines.specs.Record.{said}
use Rattle.collate_rules.specs.Meaning.{backward_in, set_to}
use Rattle.collate_compile.proofs.set_lines.is_backward.Given as goal

abbrev pub invariant-loop-line : goal.invariant-loop-line
invariant-loop-line l = set_to backward_in false (map said (drop l.line-index l.lines)) ≡ set_to backward_in false
    (map said l.lines)
