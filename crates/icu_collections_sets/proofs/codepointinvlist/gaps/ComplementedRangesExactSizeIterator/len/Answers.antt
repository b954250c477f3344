use Rattle.std.proofs.Common.{◌≡◌, ◌/◌, ◌+◌, length, ap, ◌∙◌, arith}
use Rattle.icu_collections_sets.specs.Gaps.{gaps}
use Rattle.icu_collections_sets.proofs.sets.GapLemmas.{gap_count}
use Rattle.icu_collections_sets.proofs.codepointinvlist.gaps.ComplementedRangesExactSizeIterator.len.Goals as goal

pub returns-in-Some-clause-value : goal.returns-in-Some-clause-value
returns-in-Some-clause-value c =
    let inside = c.self.inside in
    let count = gap_count inside.start c.in-Some.field-0 inside.edges inside.holds_last c.in-Some.is c.self.invariant.0 c.self.invariant.1 in
    let held = rw c.if-self.true at count in
    let left : c.len.result / 2 ≡ length (gaps inside.start inside.edges) = omega (arith, held, c.len.ensures.value) in
    left ∙ ap length c.self.view_is

pub returns-in-Some-2-clause-value : goal.returns-in-Some-2-clause-value
returns-in-Some-2-clause-value c =
    let inside = c.self.inside in
    let count = gap_count inside.start c.in-Some.field-0 inside.edges inside.holds_last c.in-Some.is c.self.invariant.0 c.self.invariant.1 in
    let held = rw c.if-self.false at count in
    let left : c.len-in-Some-2.result / 2 + 1 ≡ length (gaps inside.start inside.edges) = omega (arith, held, c.len-in-Some-2.ensures.value) in
    left ∙ ap length c.self.view_is
