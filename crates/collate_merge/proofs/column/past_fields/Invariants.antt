use Rattle.std.proofs.Common.{◌≡◌, ◌≤◌, length}
use Rattle.collate_merge.specs.Columns.{behind_fields}
use Rattle.collate_merge.proofs.column.past_fields.Given as goal

abbrev pub invariant-loop-left : goal.invariant-loop-left
invariant-loop-left l = record {
  past : behind_fields l.separator l.left l.rest ≡ behind_fields l.separator l.count l.line;
  within : length l.rest ≤ length l.line;
}

abbrev pub decreases-loop-left : goal.decreases-loop-left
decreases-loop-left l = l.left
