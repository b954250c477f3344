use Rattle.std.proofs.Common.{◌≡◌, ◌+◌, length}
use Rattle.std.specs.List.{prefix_len}
use Rattle.collate_merge.specs.Columns.{is_blank}
use Rattle.collate_merge.proofs.column.blanks_len.Given as goal

abbrev pub invariant-loop-byte : goal.invariant-loop-byte
invariant-loop-byte l = record {
  len : l.passed + prefix_len is_blank l.rest ≡ prefix_len is_blank l.line;
  all : l.passed + length l.rest ≡ length l.line;
}

abbrev pub decreases-loop-byte : goal.decreases-loop-byte
decreases-loop-byte l = length l.rest
