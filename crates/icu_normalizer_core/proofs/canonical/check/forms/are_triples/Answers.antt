use Rattle.std.proofs.Common.{rules, ◌≡◌, ◌+◌, ◌*◌, ◌%◌, ◌<◌, length, arith}
use Rattle.icu_normalizer_core.proofs.settling.TripleLemmas.{triple_at, triples_from}
use Rattle.icu_normalizer_core.proofs.canonical.check.forms.are_triples.Goals as goal

pub returns-then-not-is_triple : goal.returns-then-not-is_triple
returns-then-not-is_triple c = (
  λ h. search rules,
  λ t.
      let inside : 3 * c.loop-index.index + 2 < length c.args.steps.now = let n = c.len-count.ensures in let b = c.loop-index-test.true in omega arith in
      let here = triple_at c.args.steps.now c.loop-index.index t inside in
      search rules,
)

pub returns : goal.returns
returns c = (
  λ h.
      let whole : length c.args.steps.now % 3 ≡ 0 = let n = c.len.ensures in let b = c.if-len-ne0.false in omega arith in
      triples_from c.args.steps.now whole (λ i lt. c.loop-index.invariant i (let n = c.len-count.ensures in let b = c.loop-index-test.false in omega arith)),
  λ t. search rules,
)
