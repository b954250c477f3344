use Rattle.std.proofs.Common.{rules, ◌*◌, ◌-◌, ◌<◌, slice_index, arith}
use Rattle.icu_normalizer_core.proofs.settling.TripleLemmas.{unlisted_between}
use Rattle.icu_normalizer_core.proofs.canonical.steps.triple_of.Goals as goal
use Rattle.icu_normalizer_core.proofs.canonical.steps.triple_of.Goals.{else-index-count-via-then-index-count+else-at-c, else-index-count-via-else-index-count}

pub returns-else-index-count-clause-index : goal.returns-else-index-count-clause-index
returns-else-index-count-clause-index c =
    let below : 0 < c.first_past-index.result → slice_index c.args.steps.now (3 * (c.first_past-index.result - 1)) < c.args.c = λ h. let w = c.first_past-index.ensures.before h in search rules in
    unlisted_between c.args.steps.now c.args.c c.first_past-index.result c.requires below
    (λ h. elim c.else-index-count.branch [
      | else-index-count-via-then-index-count+else-at-c w ↦
          let past = c.first_past-index.ensures.past w.if-index-count.true in
          let key = w.at.ensures.item 0 in
          let not_below : slice_index c.args.steps.now (3 * c.first_past-index.result) < c.args.c → ⊥ = search rules in
          omega (arith, not_below, key)
      | else-index-count-via-else-index-count w ↦ omega arith
    ])
    (let bound = c.first_past-index.ensures.bound in omega arith)
