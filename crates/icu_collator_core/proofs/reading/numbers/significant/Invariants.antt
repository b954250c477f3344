use Rattle.std.proofs.Common.{◌≡◌, length}
use Rattle.icu_collator_core.specs.Numbers.{significant}
use Rattle.icu_collator_core.proofs.reading.numbers.significant.Given as goal

abbrev pub invariant-zeros : goal.invariant-zeros
invariant-zeros l = significant l.rest ≡ significant l.digits

abbrev pub decreases-zeros : goal.decreases-zeros
decreases-zeros l = length l.rest
