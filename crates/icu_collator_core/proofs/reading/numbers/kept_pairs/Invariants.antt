use Rattle.std.proofs.Common.{◌≡◌, ◌+◌, ◌/◌, ◌≤◌, length, take}
use Rattle.icu_collator_core.specs.NumberBytes.{evened}
use Rattle.icu_collator_core.specs.Numbers.{pairs_of, without_last_zeros}
use Rattle.icu_collator_core.proofs.reading.numbers.kept_pairs.Given as goal

abbrev pub invariant-pairs : goal.invariant-pairs
invariant-pairs l =
    (l.kept ≤ (length l.digits + 1) / 2)
    × (without_last_zeros (take l.kept (pairs_of (evened l.digits))) ≡ without_last_zeros (pairs_of (evened l.digits)))

abbrev pub decreases-pairs : goal.decreases-pairs
decreases-pairs l = l.kept
