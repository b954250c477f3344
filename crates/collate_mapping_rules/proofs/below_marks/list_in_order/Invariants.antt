use Rattle.std.proofs.Common.{ℕ, map}
use Rattle.std.specs.Prelude.{sum_by}
use Rattle.collate_rules.specs.CanonicalParts.{in_full}
use Rattle.collate_rules.specs.LowParts.{AreLeft, turns}
use Rattle.collate_rules.specs.Meaning.{full_of}
use Rattle.collate_mapping_rules.proofs.below_marks.list_in_order.Given as goal

abbrev pub invariant-stepping : goal.invariant-stepping
invariant-stepping l = AreLeft (map in_full l.parts.list.items) (full_of (map in_full l.parts.list.items) l.fn.c) l.waiting.items l.list.items

abbrev pub decreases-stepping : goal.decreases-stepping
decreases-stepping l = sum_by (λ (w : ℕ × ℕ). turns w.1) l.waiting.items
