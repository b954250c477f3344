use Rattle.std.proofs.Common.{◌+◌, ◌-◌, ◌<◌, ◌≤◌, get_or, length}
use Rattle.collate_lists.specs.Chains.{hashes_of, IsIn}
use Rattle.collate_lists.proofs.chains.slot_behind.Given as goal

abbrev pub invariant-chain : goal.invariant-chain
invariant-chain l = record {
  from : l.slot + 1 < l.next;
  upto : l.next ≤ length l.links;
  there : IsIn (length l.heads) l.bucket (get_or (hashes_of l.links) (l.next - 1) 0);
}

abbrev pub decreases-chain : goal.decreases-chain
decreases-chain l = l.next
