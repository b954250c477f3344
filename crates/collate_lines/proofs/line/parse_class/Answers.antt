use Rattle.std.proofs.Common.{arith}
use borrow.Author.Tests.{ltb-true, ltb-false}
use Rattle.collate_lines.proofs.reading.FormLemmas.{class_other}
use Rattle.collate_lines.proofs.line.parse_class.Goals as goal
use Rattle.collate_lines.proofs.line.parse_class.Goals.{in_default-via-then-fields-lt2, in_default-via-else-fields-lt2+else-fields-lt3}

pub returns-in_default : goal.returns-in_default
returns-in_default c =
    class_other c.args.fields.now (λ e. elim c.in_default.branch [ in_default-via-then-fields-lt2 w ↦ omega (arith, ltb-true, ltb-false) | in_default-via-else-fields-lt2+else-fields-lt3 w ↦ omega (arith, ltb-true, ltb-false) ])
