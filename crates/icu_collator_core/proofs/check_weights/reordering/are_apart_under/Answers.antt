use Rattle.std.proofs.Common.{◌+◌, ◌*◌, ◌^◌, ◌<◌, refl, arith}
use Rattle.std.proofs.lemmas.Bool.{false≢true}
use Rattle.icu_collator_core.specs.ReorderingTests.{new_lead}
use Rattle.icu_collator_core.proofs.weights.NotedLemmas.{none_noted, noted_refused}
use Rattle.icu_collator_core.proofs.check_weights.reordering.are_apart_under.Goals as goal

pub loop-lead-init : goal.loop-lead-init
loop-lead-init c = none_noted _ _ 256

pub returns-then-not-note : goal.returns-then-not-note
returns-then-not-note c =
    let under : c.loop-lead.lead < 256 = omega (arith, c.loop-lead-test.true)
    in (
      λ yes. absurd (false≢true yes),
      λ functional. absurd (noted_refused (λ lead. new_lead c.args.reordering.now (lead * 2 ^ 8 + c.args.second) 0) (λ lead. lead)
          c.loop-lead.lead 256 _ c.loop-lead.lead _ c.loop-lead.invariant under c.new_lead-key.ensures refl c.if-not-note.ensures.told functional),
    )
