use Rattle.std.proofs.Common.{◌+◌, ◌*◌, ◌^◌}
use Rattle.icu_collator_core.specs.ReorderingTests.{AreValuesNoted, new_lead}
use Rattle.icu_collator_core.proofs.check_weights.reordering.are_apart_under.Given as goal

abbrev pub invariant-loop-lead : goal.invariant-loop-lead
invariant-loop-lead l =
    AreValuesNoted (λ lead. new_lead l.reordering (lead * 2 ^ 8 + l.second) 0) (λ lead. lead) l.lead l.noted
