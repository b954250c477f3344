use Rattle.std.proofs.Common.{◌≡◌, ◌≤◌, ◌-◌, ◌++◌, drop, length}
use Rattle.icu_collator.specs.KeyBytes.{paired_halves}
use Rattle.icu_collator.proofs.key_bytes.cases.write_pairs.Given as goal

abbrev pub invariant-pairs : goal.invariant-pairs
invariant-pairs l = record {
  within : l.index ≤ length l.halves;
  level : l.key.items ++ paired_halves (drop l.index l.halves) ≡ l.initial.key.items ++ paired_halves l.halves;
}

abbrev pub decreases-pairs : goal.decreases-pairs
decreases-pairs l = length l.halves - l.index
