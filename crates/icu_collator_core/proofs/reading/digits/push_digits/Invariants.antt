use Rattle.std.proofs.Common.{◌≡◌, ◌++◌, None, drop}
use Rattle.icu_collator_core.specs.DigitRuns.{leading_digits}
use Rattle.icu_collator_core.specs.ReadSources.{weights_by}
use Rattle.icu_collator_core.proofs.reading.digits.push_digits.Given as goal

abbrev pub invariant-loop-i : goal.invariant-loop-i
invariant-loop-i l =
    l.digits.items ++ leading_digits (weights_by None l.sound).digit (drop l.i l.list)
    ≡ l.initial.digits.items ++ leading_digits (weights_by None l.sound).digit (drop l.index l.list)
