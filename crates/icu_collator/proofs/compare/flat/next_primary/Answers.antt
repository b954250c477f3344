use Rattle.std.proofs.Common.{refl, ◌≡◌, ◌∙◌, false, true, arith, rules, sym}
use Rattle.icu_normalizer_core.specs.Canonical.{IsDecomposing}
use Rattle.icu_collator_core.specs.ReadSources.{canonical_by}
use Rattle.icu_collator.specs.FlatOrders.{does_count}
use Rattle.icu_collator.proofs.orders.CountedPrimaryLemmas.{counts_some}
use Rattle.icu_collator.proofs.orders.OrderByFlatLemmas.{counted_next, none_counted, primary_counts, uncounted_next}
use Rattle.icu_collator.proofs.compare.flat.next_primary.Goals as goal

pub returns-then-counts-clause-next : goal.returns-then-counts-clause-next
returns-then-counts-clause-next g c = λ text items read.
    let source = c.args.checked.now in
    let p = c.boundary_primary-boundary.result in
    let test : does_count c.args.end p ≡ true = sym c.counts.ensures ∙ c.if-counts.true in
    let decomposing : IsDecomposing (canonical_by source) = search rules in
    counted_next source g.I.Iterator.next_gives c.args.end c.args.numeric text items _ _ c.reading.class c.in-Some.c p 0 decomposing (c.reading.invariant.read text items read)
    c.in-Some.ensures.steps (c.boundary_primary-boundary.ensures (counts_some c.args.end p test) c.args.numeric c.reading.class) test

pub returns-then-counts-clause-counts : goal.returns-then-counts-clause-counts
returns-then-counts-clause-counts g c = primary_counts c.args.end c.boundary_primary-boundary.result (sym c.counts.ensures ∙ c.if-counts.true)

pub returns-then-counts-2-clause-next : goal.returns-then-counts-2-clause-next
returns-then-counts-2-clause-next g c = λ text items read.
    let source = c.args.checked.now in
    let p = c.in-Some-flat_primary.primary in
    let test : does_count c.args.end p ≡ true = sym c.counts-in-Some.ensures ∙ c.if-counts-2.true in
    let decomposing : IsDecomposing (canonical_by source) = search rules in
    counted_next source g.I.Iterator.next_gives c.args.end c.args.numeric text items _ _ c.reading.class c.in-Some.c p c.in-Some-flat_primary.trail decomposing (c.reading.invariant.read text items read)
    c.in-Some.ensures.steps c.in-Some-flat_primary.ensures test

pub returns-then-counts-2-clause-counts : goal.returns-then-counts-2-clause-counts
returns-then-counts-2-clause-counts g c = primary_counts c.args.end c.in-Some-flat_primary.primary (sym c.counts-in-Some.ensures ∙ c.if-counts-2.true)

pub reading-init : goal.reading-init
reading-init g c = record {
  can = search rules;
  finite = search rules;
  read = λ text items read. (items, refl, read);
  fewer = omega arith;
}

pub reading-preserved : goal.reading-preserved
reading-preserved g c =
    let test : does_count c.args.end c.in-Some-flat_primary.primary ≡ false = sym c.counts-in-Some.ensures ∙ c.if-counts-2.false in
    record {
      can = search rules;
      finite = search rules;
      read = λ text items read.
          uncounted_next c.args.checked.now g.I.Iterator.next_gives c.args.end c.args.numeric text items _ _ c.reading.class c.in-Some.c c.in-Some-flat_primary.primary c.in-Some-flat_primary.trail
          (c.reading.invariant.read text items read) c.in-Some.ensures.steps c.in-Some-flat_primary.ensures test;
      fewer = omega (arith, c.reading.invariant.fewer, (c.in-Some.ensures.goes.on c.reading.invariant.finite).2);
    }

pub returns-clause-next : goal.returns-clause-next
returns-clause-next g c = λ text items read.
    none_counted c.args.checked.now g.I.Iterator.next_gives c.args.end c.args.numeric text items _ _ c.reading.class c.reading.class (c.reading.invariant.read text items read) c.in_default.ensures.steps

pub returns-in_default-flat_primary-clause-next : goal.returns-in_default-flat_primary-clause-next
returns-in_default-flat_primary-clause-next g c = λ text items read. (items, refl, (items, tt))
