use Rattle.std.proofs.Common.{◌≡◌, map, drop, []}
use Rattle.collate_rules.specs.Meaning.{set_to, compress_in}
use Rattle.collate_lines.specs.Record.{said}
use Rattle.collate_compile.proofs.by_lines.compressed.Given as goal

abbrev pub invariant-loop-record : goal.invariant-loop-record
invariant-loop-record l =
    set_to compress_in [] (map said (drop l.record-index l.records)) ≡ set_to compress_in [] (map said l.records)
