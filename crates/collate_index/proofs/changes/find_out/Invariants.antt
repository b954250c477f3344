use Rattle.std.proofs.Common.{◌≡◌, ◌+◌, ◌*◌, ◌++◌, [], ◌∷◌, length}
use Rattle.collate_index.proofs.reloading.DepthLemmas.{depth_of}
use Rattle.collate_index.specs.Changes.{AreKnown}
use Rattle.collate_index.proofs.reloading.WalkLemmas.{IsWalk, unknown_count}
use Rattle.collate_index.proofs.changes.find_out.Given as goal

abbrev pub invariant-looks : goal.invariant-looks
invariant-looks l = record {
  known : AreKnown l.differences l.known.items;
  room : length l.known.items ≡ 0x110000;
  walk : IsWalk (depth_of l.differences.before) l.known.items l.fn.c (l.waiting.items ++ l.here ∷ []);
}

abbrev pub decreases-looks : goal.decreases-looks
decreases-looks l = unknown_count l.known.items * 0x110001 + depth_of l.differences.before l.here
