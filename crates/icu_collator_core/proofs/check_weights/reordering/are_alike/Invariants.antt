use Rattle.std.proofs.Common.{◌/◌, ◌^◌}
use Rattle.icu_collator_core.specs.ReorderingTests.{AreValuesNoted, compressible_bit, new_lead}
use Rattle.icu_collator_core.proofs.check_weights.reordering.are_alike.Given as goal

abbrev pub invariant-loop-half : goal.invariant-loop-half
invariant-loop-half l =
    AreValuesNoted (λ half. new_lead l.reordering half 0) (λ half. compressible_bit l.special (half / 2 ^ 8)) l.half l.noted
