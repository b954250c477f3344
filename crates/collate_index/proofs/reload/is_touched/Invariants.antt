use Rattle.std.proofs.Common.{◌≡◌, All, false}
use Rattle.collate_index.specs.Changes.{Tells}
use Rattle.collate_index.proofs.reload.is_touched.Given as goal

abbrev pub invariant-loop-c : goal.invariant-loop-c
invariant-loop-c l = record {
  same : l.changes ≡ l.initial.changes;
  none : All (λ x. Tells l.initial.changes x false) l.yielded;
}
