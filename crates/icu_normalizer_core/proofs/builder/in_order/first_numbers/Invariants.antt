use Rattle.std.proofs.Common.{◌≤◌, take}
use Rattle.std.specs.BTreeMap.{btree_map_len}
use Rattle.icu_normalizer_core.specs.InOrder.{HasFirsts}
use Rattle.icu_normalizer_core.proofs.builder.in_order.first_numbers.Given as goal

abbrev pub invariant-loop-n : goal.invariant-loop-n
invariant-loop-n l = HasFirsts l.divisor (take l.n-index l.numbers) l.firsts × (btree_map_len l.firsts ≤ l.n-index)
