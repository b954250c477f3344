use Rattle.std.proofs.Common.{◌≡◌, take}
use Rattle.icu_collator.specs.FlatOrders.{counted_primaries}
use Rattle.icu_collator.proofs.compare.stretched.first_primary.Given as goal

abbrev pub invariant-loop-at : goal.invariant-loop-at
invariant-loop-at l = counted_primaries l.end (take l.at l.elements) ≡ counted_primaries l.end (take l.index l.elements)
