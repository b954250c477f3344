use Rattle.std.proofs.Common.{map, ap, ◌∙◌}
use Rattle.collate_lines.specs.Record.{said}
use Rattle.collate_rules.specs.Meaning.{digit_in, first_found}
use Rattle.collate_compile.proofs.gathering.OwnLineLemmas.{digit_own}
use Rattle.collate_compile.proofs.noted_lines.NotedLines.digit_of.Goals as goal

pub returns : goal.returns
returns c =
    c.first_digit.ensures ∙ ap (first_found (digit_in c.args.c)) c.own.ensures
    ∙ digit_own c.args.c (map said c.args.self.now.lines.now)
