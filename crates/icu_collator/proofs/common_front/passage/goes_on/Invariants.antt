use Rattle.std.specs.List.{AllByRecursion}
use Rattle.icu_collator_core.specs.PlainWords.{IsUnprefixed}
use Rattle.icu_collator.specs.Collators.{source_collation}
use Rattle.icu_collator.specs.Boundaries.{GoesOn}
use Rattle.icu_collator.proofs.common_front.passage.goes_on.Given as goal

abbrev pub invariant-loop-d : goal.invariant-loop-d
invariant-loop-d l =
    AllByRecursion (IsUnprefixed (source_collation l.fn.checked).weights) l.d-iterator
    → GoesOn (source_collation l.fn.checked).canonical (source_collation l.fn.checked).weights l.fn.c
