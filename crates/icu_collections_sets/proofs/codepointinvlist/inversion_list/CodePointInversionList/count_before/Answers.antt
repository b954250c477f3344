use Rattle.std.proofs.Common.{false, not, sym, ◌∙◌, subst, arith}
use Rattle.icu_collections_sets.specs.CodePoints.{Rises}
use Rattle.icu_collections_sets.proofs.sets.InversionListLemmas.{CountsUpTo, CountsUpTo-none, CountsUpTo-more, CountsUpTo-before, CountsUpTo-end, grown_small}
use Rattle.icu_collections_sets.proofs.codepointinvlist.inversion_list.CodePointInversionList.count_before.Goals as goal

pub loop-edge-init : goal.loop-edge-init
loop-edge-init c =
    let list = c.args.self.now in
    let start = sym (c.into_iter-edge-iterator.ensures.into_iter_gives ∙ c.iter-edge-items.ensures.items ∙ c.self.view_is) in
    let rises = subst (Rises 0) c.self.view_is c.self.invariant.rises in
    record {
      counts = subst (λ xs. CountsUpTo list c.args.code_point xs false 0 0) start (CountsUpTo-none list c.args.code_point rises);
      small = omega arith;
      in_code_points = omega arith;
    }

pub returns-then-edge-code_point : goal.returns-then-edge-code_point
returns-then-edge-code_point c =
    let w = c.loop-edge in
    let counts = subst (λ xs. CountsUpTo c.args.self.now c.args.code_point xs w.inside w.last w.count) c.in-Some.ensures.steps w.invariant.counts in
    c.grown.ensures ∙ CountsUpTo-before c.args.self.now c.args.code_point c.in-Some.edge c.next.new.self w.inside w.last w.count counts c.if-edge-code_point.true

pub loop-edge-preserved : goal.loop-edge-preserved
loop-edge-preserved c =
    let w = c.loop-edge in
    let list = c.args.self.now in
    let bound = c.args.code_point in
    let counts = subst (λ xs. CountsUpTo list bound xs w.inside w.last w.count) c.in-Some.ensures.steps w.invariant.counts in
    let more = CountsUpTo-more list bound c.in-Some.edge c.next.new.self w.inside w.last w.count counts c.if-edge-code_point.false in
    let small = grown_small w.inside w.count w.last c.in-Some.edge w.invariant.small counts.rises.0 in
    record {
      counts = subst (λ n. CountsUpTo list bound c.next.new.self (not w.inside) c.in-Some.edge n) (sym c.grown-count.ensures) more;
      small = omega (arith, small, c.grown-count.ensures);
      in_code_points = counts.rises.1;
    }

pub returns : goal.returns
returns c =
    let w = c.loop-edge in
    let counts = subst (λ xs. CountsUpTo c.args.self.now c.args.code_point xs w.inside w.last w.count) c.in-None.ensures.steps.0 w.invariant.counts in
    c.grown-2.ensures ∙ CountsUpTo-end c.args.self.now c.args.code_point w.inside w.last w.count counts
