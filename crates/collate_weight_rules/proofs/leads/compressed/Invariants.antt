use Rattle.std.proofs.Common.{◌≡◌, map, drop}
use Rattle.collate_lines.specs.Record.{said}
use Rattle.collate_rules.specs.Meaning.{first_found, compress_in}
use Rattle.collate_weight_rules.proofs.leads.compressed.Given as goal

abbrev pub invariant-loop-line : goal.invariant-loop-line
invariant-loop-line l = first_found compress_in (map said (drop l.line-index l.lines)) ≡ first_found compress_in (map said l.lines)
