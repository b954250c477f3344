use Rattle.collate_index.proofs.changes.promise_scalar.Goals as goal

pub returns : goal.returns
returns c = c.ranges.c.0
