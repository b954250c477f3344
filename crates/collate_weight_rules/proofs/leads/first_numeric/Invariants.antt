use Rattle.std.proofs.Common.{◌≡◌, map, drop}
use Rattle.collate_lines.specs.Record.{said}
use Rattle.collate_rules.specs.Meaning.{first_found, numeric_in}
use Rattle.collate_weight_rules.proofs.leads.first_numeric.Given as goal

abbrev pub invariant-loop-line : goal.invariant-loop-line
invariant-loop-line l = first_found numeric_in (map said (drop l.line-index l.lines)) ≡ first_found numeric_in (map said l.lines)
