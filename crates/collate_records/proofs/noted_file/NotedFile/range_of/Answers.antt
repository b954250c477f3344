use Rattle.std.proofs.Common.{List, map, ap, ◌∙◌}
use Rattle.collate_lines.specs.declared.record.Range.{Range}
use Rattle.collate_lines.specs.Record.{said}
use Rattle.collate_rules.specs.Meaning.{first_found, span_of}
use Rattle.collate_compile.specs.NotedLines.{held_by}
use Rattle.collate_compile.proofs.gathering.OwnLineLemmas.{range_found}
use Rattle.collate_records.proofs.noted_file.NotedFile.range_of.Goals as goal

pub returns : goal.returns
returns c =
    c.first_range.ensures
    ∙ ap (λ (rs : List Range). first_found (held_by c.args.c) (map span_of rs)) c.deref.ensures.value
    ∙ ap (first_found (held_by c.args.c)) c.args.self.now.has_ranges
    ∙ range_found c.args.c (map said c.args.self.now.lines.now)
