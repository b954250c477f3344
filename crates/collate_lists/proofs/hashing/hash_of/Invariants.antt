use Rattle.std.proofs.Common.{◌≡◌, ◌<◌, drop}
use Rattle.collate_lists.specs.Hashes.{hash_from}
use Rattle.collate_lists.specs.declared.hashing.TheConstants.{PRIME}
use Rattle.collate_lists.proofs.hashing.hash_of.Given as goal

abbrev pub invariant-bytes : goal.invariant-bytes
invariant-bytes l = record {
  below : l.hash < PRIME;
  carried : hash_from l.point l.hash (drop l.byte-index l.bytes) ≡ hash_from l.point 0 l.bytes;
}
