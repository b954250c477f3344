use Rattle.std.proofs.Common.{arith}
use borrow.Author.Tests.{ltb-true, ltb-false}
use Rattle.collate_lines.proofs.reading.FormLemmas.{pairs_cut}
use Rattle.collate_lines.proofs.list_fields.parse_lead_pairs.Goals as goal

pub returns-in_default-rest : goal.returns-in_default-rest
returns-in_default-rest c =
    pairs_cut c.loop-rest.pairs.items c.args.fields.now c.loop-rest.rest.now c.loop-rest.invariant (λ e. omega (arith, ltb-true, ltb-false)) (omega (arith, ltb-true, ltb-false))
