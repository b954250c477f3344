use Rattle.std.proofs.Common.{ap, not, leb, rules, tests}
use borrow.Author.Tests.{le-leb}
use Rattle.std.proofs.lemmas.Iterator.{YieldsList-from_slice}
use Rattle.std.proofs.lemmas.Iterator.Search.{any_from_yields_List}
use Rattle.collate_lines.proofs.line.is_short_ascii.Goals as goal

pub returns-then-line-le-LINE_LIMIT : goal.returns-then-line-le-LINE_LIMIT
returns-then-line-le-LINE_LIMIT c =
    let e = any_from_yields_List (λ b. leb 128 b) _ _ c.any.result c.any.ensures.ran (YieldsList-from_slice c.args.line.now c.iter.ensures.rest) (λ x b q k. search (rules, tests)) in
    rw (le-leb _ _ c.if-line-le-LINE_LIMIT.true) (ap not e)
