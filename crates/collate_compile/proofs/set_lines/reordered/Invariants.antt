use Rattle.std.proofs.Common.{◌≡◌, map, drop, []}
use Rattle.collate_lines.specs.Record.{said}
use Rattle.collate_rules.specs.Meaning.{reorder_in, set_to}
use Rattle.collate_compile.proofs.set_lines.reordered.Given as goal

abbrev pub invariant-loop-line : goal.invariant-loop-line
invariant-loop-line l = set_to reorder_in [] (map said (drop l.line-index l.lines)) ≡ set_to reorder_in []
    (map said l.lines)
