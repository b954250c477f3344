use Rattle.std.proofs.Common.{arith}
use Rattle.collate_lists.proofs.parts.Parts.free_index.Goals as goal

pub returns-then-index-le-HALF-clause-free : goal.returns-then-index-le-HALF-clause-free
returns-then-index-le-HALF-clause-free c = c.split.ensures.lower c.args.rank c.find-part.result.1 c.find-part.ensures.index (omega arith)

pub returns-else-index-le-HALF-clause-free : goal.returns-else-index-le-HALF-clause-free
returns-else-index-le-HALF-clause-free c = c.split.ensures.upper c.args.rank c.find-part.result.1 c.find-part.ensures.index (omega arith)
