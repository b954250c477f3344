use Rattle.std.proofs.Common.{◌≡◌, ◌+◌, [], not, sym, ◌∙◌, subst}
use Rattle.icu_collections_sets.specs.Operations.{operated}
use Rattle.icu_collections_sets.proofs.edits.OperationLemmas.{Merging, Merging-none, Merging-same, Merging-turn, Merging-all, next_is, no_next, turned_about, turned_same}
use Rattle.icu_collections_sets.proofs.codepointinvlist.operation.combine.Goals as goal

pub loop-edge-init : goal.loop-edge-init
loop-edge-init c = rw c.new-edges.ensures.items (0, Merging-none c.args.operation c.args.first.now c.args.second.now c.requires.first c.requires.second)

pub loop-edge-preserved-then-apply-held : goal.loop-edge-preserved-then-apply-held
loop-edge-preserved-then-apply-held c =
    let l = c.loop-edge in
    let w = l.invariant.1 in
    let edge = c.in-Some.edge in
    let next = next_is l.first_rest.now l.second_rest.now c.next_edge.result edge l.invariant.0 c.next_edge.ensures c.in-Some.is w.first w.second in
    let turn : operated c.args.operation c.pass_edge.result.1 c.pass_edge-in-Some.result.1 ≡ not l.held = sym c.apply.ensures ∙ turned_about c.apply.result l.held c.if-apply-held.true in
    rw c.in_ok-push.ensures.items (
      edge + 1,
      Merging-turn c.args.operation c.args.first.now c.args.second.now l.first_rest.now l.in_first l.second_rest.now l.in_second l.edges.items l.held l.invariant.0 edge
          c.pass_edge.result.0.now c.pass_edge.result.1 c.pass_edge-in-Some.result.0.now c.pass_edge-in-Some.result.1 w next c.pass_edge.ensures c.pass_edge-in-Some.ensures turn,
    )

pub loop-edge-preserved : goal.loop-edge-preserved
loop-edge-preserved c =
    let l = c.loop-edge in
    let w = l.invariant.1 in
    let edge = c.in-Some.edge in
    let next = next_is l.first_rest.now l.second_rest.now c.next_edge.result edge l.invariant.0 c.next_edge.ensures c.in-Some.is w.first w.second in
    let same : operated c.args.operation c.pass_edge.result.1 c.pass_edge-in-Some.result.1 ≡ l.held = sym c.apply.ensures ∙ turned_same c.apply.result l.held c.if-apply-held.false in (
      edge + 1,
      Merging-same c.args.operation c.args.first.now c.args.second.now l.first_rest.now l.in_first l.second_rest.now l.in_second l.edges.items l.held l.invariant.0 edge
          c.pass_edge.result.0.now c.pass_edge.result.1 c.pass_edge-in-Some.result.0.now c.pass_edge-in-Some.result.1 w next c.pass_edge.ensures c.pass_edge-in-Some.ensures same,
    )

pub returns : goal.returns
returns c =
    let l = c.loop-edge in
    let operation = c.args.operation in
    let xs = c.args.first.now in
    let ys = c.args.second.now in
    let none = no_next l.first_rest.now l.second_rest.now c.next_edge.result c.next_edge.ensures c.in_default.is in
    let w = subst (λ rest. Merging operation xs ys [] l.in_first rest l.in_second l.edges.items l.held l.invariant.0) none.1
    (subst (λ rest. Merging operation xs ys rest l.in_first l.second_rest.now l.in_second l.edges.items l.held l.invariant.0) none.0 l.invariant.1) in
    Merging-all operation xs ys l.in_first l.in_second l.edges.items l.held l.invariant.0 w
