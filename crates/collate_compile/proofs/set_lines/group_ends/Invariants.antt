use Rattle.std.proofs.Common.{◌≡◌, map, drop, replicate}
use Rattle.collate_lines.specs.Record.{said}
use Rattle.collate_rules.specs.Meaning.{groups_in, set_to}
use Rattle.collate_compile.proofs.set_lines.group_ends.Given as goal

abbrev pub invariant-loop-line : goal.invariant-loop-line
invariant-loop-line l = set_to groups_in (replicate 4 0x300) (map said (drop l.line-index l.lines)) ≡ set_to
    groups_in (replicate 4 0x300) (map said l.lines)
