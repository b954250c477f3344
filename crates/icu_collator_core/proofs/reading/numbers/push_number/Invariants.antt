use Rattle.std.proofs.Common.{◌≡◌, ◌++◌, length}
use Rattle.icu_collator_core.specs.ElementLists.{unpacked}
use Rattle.icu_collator_core.specs.NumberBytes.{AreDigitValues}
use Rattle.icu_collator_core.specs.Numbers.{number_elements}
use Rattle.icu_collator_core.proofs.reading.numbers.push_number.Given as goal

abbrev pub invariant-parts : goal.invariant-parts
invariant-parts l =
    AreDigitValues l.rest
    × (unpacked l.elements.items ++ number_elements l.lead l.rest ≡ unpacked l.initial.elements.items ++ number_elements l.lead l.digits)

abbrev pub decreases-parts : goal.decreases-parts
decreases-parts l = length l.rest
