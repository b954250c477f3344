use Rattle.std.proofs.Common.{◌≡◌, ◌+◌, ◌==◌, length, not}
use Rattle.std.specs.List.{prefix_len}
use Rattle.collate_merge.proofs.column.len_before.Given as goal

abbrev pub invariant-loop-byte : goal.invariant-loop-byte
invariant-loop-byte l = record {
  len : l.passed + prefix_len (λ byte. not (byte == l.separator)) l.rest ≡ prefix_len (λ byte. not (byte == l.separator)) l.line;
  all : l.passed + length l.rest ≡ length l.line;
}

abbrev pub decreases-loop-byte : goal.decreases-loop-byte
decreases-loop-byte l = length l.rest
