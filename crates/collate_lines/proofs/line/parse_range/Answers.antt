use Rattle.std.proofs.Common.{arith}
use borrow.Author.Tests.{ltb-true, ltb-false}
use Rattle.collate_lines.proofs.reading.FormLemmas.{range_other}
use Rattle.collate_lines.proofs.line.parse_range.Goals as goal
use Rattle.collate_lines.proofs.line.parse_range.Goals.{in_default-via-then-fields-lt4, in_default-via-else-fields-lt4+else-fields-lt5}

pub returns-in_default : goal.returns-in_default
returns-in_default c =
    range_other c.args.fields.now (λ e. elim c.in_default.branch [ in_default-via-then-fields-lt4 w ↦ omega (arith, ltb-true, ltb-false) | in_default-via-else-fields-lt4+else-fields-lt5 w ↦ omega (arith, ltb-true, ltb-false) ])
