use Rattle.std.proofs.Common.{ℕ, ◌≤◌}
use Rattle.collate_mapping_rules.proofs.mappings.LowChainLemmas.{IsFollowed}
use Rattle.collate_mapping_rules.proofs.below_marks.is_always_own.Given as goal

abbrev pub invariant-following : goal.invariant-following
invariant-following l = (n : ℕ) × (l.left ≤ n) × IsFollowed l.parts.list.items l.fn.c l.front n l.next_class

abbrev pub decreases-following : goal.decreases-following
decreases-following l = l.left
