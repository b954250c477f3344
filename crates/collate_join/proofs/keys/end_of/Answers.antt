use Rattle.std.proofs.Common.{ℕ, ◌==◌}
use Rattle.collate_join.proofs.PartLemmas.{end_found, end_missing}
use Rattle.collate_join.proofs.keys.end_of.Goals as goal

pub returns-in-Some-clause-index : goal.returns-in-Some-clause-index
returns-in-Some-clause-index c = end_found (λ (b : ℕ). b == c.args.byte) c.args.bytes.now c.in-Some.end c.in-Some.ensures.index

pub returns-in-None-clause-index : goal.returns-in-None-clause-index
returns-in-None-clause-index c = end_missing (λ (b : ℕ). b == c.args.byte) c.args.bytes.now c.in-None.ensures.index
