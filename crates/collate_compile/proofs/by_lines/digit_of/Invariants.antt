use Rattle.std.proofs.Common.{◌≡◌, map, drop}
use Rattle.collate_rules.specs.Meaning.{first_found, digit_in}
use Rattle.collate_lines.specs.Record.{said}
use Rattle.collate_compile.proofs.by_lines.digit_of.Given as goal

abbrev pub invariant-loop-record : goal.invariant-loop-record
invariant-loop-record l =
    first_found (digit_in l.c) (map said (drop l.record-index l.records)) ≡ first_found (digit_in l.c)
    (map said l.records)
