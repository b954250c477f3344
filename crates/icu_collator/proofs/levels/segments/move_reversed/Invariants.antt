use Rattle.std.proofs.Common.{◌≡◌, ◌++◌, reverse}
use Rattle.smallvec.specs.SmallVec.{small_vec_len}
use Rattle.icu_collator.proofs.levels.segments.move_reversed.Given as goal

abbrev pub invariant-ranks : goal.invariant-ranks
invariant-ranks l = l.list.items ++ reverse l.segment.items ≡ l.initial.list.items ++ reverse l.initial.segment.items

abbrev pub decreases-ranks : goal.decreases-ranks
decreases-ranks l = small_vec_len l.segment
