use Rattle.std.proofs.Common.{[], ◌∷◌, map, ap, ◌∙◌}
use Rattle.collate_lines.specs.Record.{layer_of, said}
use Rattle.collate_rules.specs.Meaning.{elements_in, first_found}
use Rattle.collate_compile.proofs.gathering.OwnLineLemmas.{alone_own}
use Rattle.collate_compile.proofs.noted_lines.NotedLines.alone_in.Goals as goal

pub returns : goal.returns
returns c =
    c.first_alone.ensures
    ∙ ap (first_found (elements_in (layer_of c.args.layer) [] (c.args.c ∷ []))) c.own.ensures
    ∙ alone_own c.args.c (map said c.args.self.now.lines.now) (layer_of c.args.layer)
