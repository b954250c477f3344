use Rattle.std.proofs.Common.{◌∙◌, ◌++◌, ◌∷◌, [], List, ℕ, ap, arith, refl, sym}
use Rattle.std.proofs.lemmas.List.{take_all}
use Rattle.icu_collator.specs.FlatOrders.{counted_primaries}
use Rattle.icu_collator.proofs.orders.CountedPrimaryLemmas.{counted_more, uncounted_more}
use Rattle.icu_collator.proofs.compare.stretched.first_primary.Goals as goal

pub loop-at-init : goal.loop-at-init
loop-at-init c = refl

pub loop-at-preserved : goal.loop-at-preserved
loop-at-preserved c =
    uncounted_more c.args.end c.args.elements.now c.loop-at.at c.index-elements-at.result c.primary-primary.result c.loop-at-test.true
    c.index-elements-at.is c.primary-primary.ensures (sym c.counts.ensures ∙ c.if-counts.false)
    ∙ c.loop-at.invariant

pub returns-then-counts : goal.returns-then-counts
returns-then-counts c = record {
  within = omega (arith, c.loop-at-test.true);
  primary = counted_more c.args.end c.args.elements.now c.loop-at.at c.index-elements-at.result c.primary-primary.result c.loop-at-test.true
      c.index-elements-at.is c.primary-primary.ensures (sym c.counts.ensures ∙ c.if-counts.true)
      ∙ ap (λ (ps : List ℕ). ps ++ c.primary-primary.result ∷ []) c.loop-at.invariant;
  none = tt;
}

pub returns : goal.returns
returns c = record {
  within = tt;
  primary = tt;
  none = ap (counted_primaries c.args.end) (sym (take_all c.loop-at.at c.args.elements.now c.loop-at-test.false)) ∙ c.loop-at.invariant;
}
