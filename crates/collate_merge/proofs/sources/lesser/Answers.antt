use Rattle.std.proofs.Common.{◌≡◌, ◌+◌, ℕ, Some, subst}
use Rattle.collate_merge.specs.Least.{IsLeast}
use Rattle.collate_merge.specs.Sources.{source_order}
use Rattle.collate_merge.specs.declared.sources.Source.{Source}
use Rattle.collate_merge.proofs.LeastSourceLemmas.{none_before, some_above, some_upto}
use Rattle.collate_merge.proofs.sources.lesser.Goals as goal

pub returns-in-None : goal.returns-in-None
returns-in-None g c =
    none_before c.args.direction c.args.sources.now c.args.index c.requires.within c.args.least c.requires.before c.index-sources-index.result c.if-sources-index.false c.in-None.is

pub returns-in-Some : goal.returns-in-Some
returns-in-Some g c =
    let is : c.args.least ≡ Some c.in-Some.other = cc in
    some_above c.args.direction c.args.sources.now c.args.index c.requires.within c.args.least c.requires.before c.index-sources-index.result c.if-sources-index.false
    c.in-Some.other is c.index-sources-other.result c.index-sources-index-in-Some-1.result c.deref.result.now c.deref-in-Some-1.result.now c.deref.ensures.value c.deref-in-Some-1.ensures.value
    c.is_above.result c.is_above.ensures c.if-is_above.true

pub returns-in-Some-2 : goal.returns-in-Some-2
returns-in-Some-2 g c =
    let is : c.args.least ≡ Some c.in-Some.other = cc in
    let same : c.in-Some.other ≡ c.in-Some-2.other = cc in
    subst (λ (n : ℕ). IsLeast (λ (s : Source g.row.R.Denot). s.is_done) (source_order c.args.direction) c.args.sources.now (c.args.index + 1) n) same
    (some_upto c.args.direction c.args.sources.now c.args.index c.requires.within c.args.least c.requires.before c.index-sources-index.result c.if-sources-index.false
    c.in-Some.other is c.index-sources-other.result c.index-sources-index-in-Some-1.result c.deref.result.now c.deref-in-Some-1.result.now c.deref.ensures.value c.deref-in-Some-1.ensures.value
    c.is_above.result c.is_above.ensures c.if-is_above.false)
