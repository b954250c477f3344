use Rattle.std.proofs.Common.{◌≡◌, take}
use Rattle.icu_collator_core.specs.Numbers.{value_of}
use Rattle.icu_collator_core.proofs.reading.numbers.value_of.Given as goal

abbrev pub invariant-loop-digit : goal.invariant-loop-digit
invariant-loop-digit l = l.value ≡ value_of (take l.digit-index l.digits)
