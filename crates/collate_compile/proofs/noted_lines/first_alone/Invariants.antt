use Rattle.std.proofs.Common.{◌≡◌, [], ◌∷◌, map, drop}
use Rattle.collate_lines.specs.Record.{layer_of}
use Rattle.collate_rules.specs.Meaning.{elements_in, first_found}
use Rattle.collate_compile.specs.NotedLines.{said_by}
use Rattle.collate_compile.proofs.noted_lines.first_alone.Given as goal

abbrev pub invariant-loop-line : goal.invariant-loop-line
invariant-loop-line l =
    first_found (elements_in (layer_of l.layer) [] (l.c ∷ [])) (map said_by (drop l.line-index l.own))
    ≡ first_found (elements_in (layer_of l.layer) [] (l.c ∷ [])) (map said_by l.own)
