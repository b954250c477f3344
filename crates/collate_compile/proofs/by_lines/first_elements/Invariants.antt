use Rattle.std.proofs.Common.{◌≡◌, map, drop}
use Rattle.collate_rules.specs.Meaning.{first_found, elements_in}
use Rattle.collate_lines.specs.Record.{layer_of, said}
use Rattle.collate_compile.proofs.by_lines.first_elements.Given as goal

abbrev pub invariant-loop-record : goal.invariant-loop-record
invariant-loop-record l =
    first_found (elements_in (layer_of l.layer) l.prefix l.text) (map said (drop l.record-index l.records))
    ≡ first_found (elements_in (layer_of l.layer) l.prefix l.text) (map said l.records)
