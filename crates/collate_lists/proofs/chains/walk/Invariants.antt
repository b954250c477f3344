use Rattle.std.proofs.Common.{◌≡◌, ℕ, ◌-◌, ◌%◌, ◌<◌, ◌≤◌, get_or, length}
use Rattle.collate_lists.specs.Chains.{hashes_of, IsIn}
use Rattle.collate_lists.proofs.chains.walk.Given as goal

abbrev pub invariant-chain : goal.invariant-chain
invariant-chain l = record {
  upto : l.slot ≤ length l.links;
  there : 0 < l.slot → IsIn (length l.heads) (l.hash % length l.heads) (get_or (hashes_of l.links) (l.slot - 1) 0);
  none : (k : ℕ) → l.slot ≤ k → k < l.end → get_or (hashes_of l.links) k 0 ≡ l.hash → ⊥;
}

abbrev pub decreases-chain : goal.decreases-chain
decreases-chain l = l.slot
