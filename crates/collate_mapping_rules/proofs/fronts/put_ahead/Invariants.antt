use Rattle.std.proofs.Common.{◌≡◌, ◌≤◌, ◌-◌, ◌++◌, length, drop, map, reverse}
use Rattle.collate_mapping_rules.specs.AheadLists.{at_limit}
use Rattle.collate_mapping_rules.proofs.fronts.put_ahead.Given as goal

abbrev pub invariant-loop-i : goal.invariant-loop-i
invariant-loop-i l = record {
  within : l.i ≤ length l.characters;
  put : l.stack.items ≡ l.fn.stack.items ++ reverse (map (at_limit (l.limit - 1)) (drop l.i l.characters));
}

abbrev pub decreases-loop-i : goal.decreases-loop-i
decreases-loop-i l = l.i
