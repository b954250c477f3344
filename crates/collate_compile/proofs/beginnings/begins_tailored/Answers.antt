use Rattle.std.proofs.Common.{map, ap, ◌∙◌}
use Rattle.std.specs.List.{list_any}
use Rattle.collate_lines.specs.Record.{said}
use Rattle.collate_compile.specs.LineSayings.{begins_tailored_line}
use Rattle.collate_compile.proofs.gathering.OwnLineLemmas.{tailored_own}
use Rattle.collate_compile.proofs.beginnings.begins_tailored.Goals as goal

pub returns : goal.returns
returns c =
    c.begins_tailored_one.ensures ∙ ap (list_any (begins_tailored_line c.args.c)) c.own.ensures
    ∙ tailored_own c.args.c (map said c.args.noted.now.lines.now)
