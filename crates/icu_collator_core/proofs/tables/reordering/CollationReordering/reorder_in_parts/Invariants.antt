-- The part of a cut lead is among the ranges that are left.
use Rattle.std.proofs.Common.{◌≡◌}
use Rattle.icu_collator_core.specs.TableSettings.{moved_in_parts}
use Rattle.icu_collator_core.proofs.tables.reordering.CollationReordering.reorder_in_parts.Given as goal

abbrev pub invariant-loop-range : goal.invariant-loop-range
invariant-loop-range l = moved_in_parts l.range-iterator l.primary ≡ moved_in_parts l.self.reorder_ranges l.primary
