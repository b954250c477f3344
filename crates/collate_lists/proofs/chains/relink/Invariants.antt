use Rattle.std.proofs.Common.{◌≡◌, length}
use Rattle.collate_lists.specs.Chains.{hashes_of, IsLinkedTo}
use Rattle.collate_lists.proofs.chains.relink.Given as goal

abbrev pub invariant-slots : goal.invariant-slots
invariant-slots l = record {
  linked : IsLinkedTo l.heads.items l.links.items l.slot;
  hashes : hashes_of l.links.items ≡ hashes_of l.fn.links.items;
  slots : length l.links.items ≡ length l.fn.links.items;
  buckets : length l.heads.items ≡ length l.fn.heads.items;
}
