use Rattle.std.proofs.Common.{◌≡◌, ◌*◌, ◌++◌, drop}
use Rattle.icu_collator_core.specs.ElementLists.{unpacked}
use Rattle.icu_collator_core.specs.NumberBytes.{long_bytes}
use Rattle.icu_collator_core.specs.Numbers.{elements_of_bytes}
use Rattle.icu_collator_core.proofs.reading.numbers.push_long.Given as goal

abbrev pub invariant-loop-index : goal.invariant-loop-index
invariant-loop-index l =
    unpacked l.elements.items ++ elements_of_bytes l.lead (drop (3 * l.index) (long_bytes l.digits))
    ≡ unpacked l.initial.elements.items ++ elements_of_bytes l.lead (long_bytes l.digits)
