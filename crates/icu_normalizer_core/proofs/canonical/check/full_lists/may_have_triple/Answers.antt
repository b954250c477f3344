use Rattle.std.proofs.Common.{◌/◌, arith}
use Rattle.icu_normalizer_core.proofs.settling.TripleLemmas.{unlisted_between}
use Rattle.icu_normalizer_core.proofs.canonical.check.full_lists.may_have_triple.Goals as goal
use Rattle.icu_normalizer_core.proofs.canonical.check.full_lists.may_have_triple.Goals.{then-count-eq0-via-then-count-eq0, then-count-eq0-via-else-count-eq0+then-c-at, then-count-eq0-via-else-count-eq0+else-c-at+then-at-c}

pub returns-then-count-eq0 : goal.returns-then-count-eq0
returns-then-count-eq0 c = λ off.
    let n = c.len-count.ensures in
    let whole = c.requires.whole in
    elim c.then-count-eq0.branch [
      | then-count-eq0-via-then-count-eq0 w ↦
          let none = w.if-count-eq0.true in
          unlisted_between c.args.steps.now c.args.c 0 c.requires (λ h. absurd (omega arith)) (λ h. absurd (omega (arith, n, whole, none, h))) (omega arith)
      | then-count-eq0-via-else-count-eq0+then-c-at w ↦
          let item = w.at.ensures.item 0 in
          let below = w.if-c-at.true in
          unlisted_between c.args.steps.now c.args.c 0 c.requires (λ h. absurd (omega arith)) (λ h. omega (arith, item, below)) (omega arith)
      | then-count-eq0-via-else-count-eq0+else-c-at+then-at-c w ↦
          let item = w.at-else-c-at.ensures.item 0 in
          let above = w.if-at-c.true in
          unlisted_between c.args.steps.now c.args.c (c.len-count.result / 3) c.requires (λ h. omega (arith, item, above)) (λ h. absurd (omega (arith, n, whole, h)))
          (omega (arith, n))
    ]
