use Rattle.std.proofs.Common.{◌≢◌, ℕ, ◌<◌, length, get_or, sym, ap, subst, ◌∙◌, arith}
use Rattle.std.proofs.lemmas.List.{get_or_default}
use Rattle.icu_collections_sets.specs.CodePoints.{Rises}
use Rattle.icu_collections_sets.specs.SetEdits.{IsCountBelow, IsToggled}
use Rattle.icu_collections_sets.proofs.edits.ToggleLemmas.{edge_put, edge_taken}
use Rattle.icu_collections_sets.proofs.codepointinvlist.builder.within.toggle.Goals.{else-index-len-via-then-index-len+else-index-edge, else-index-len-via-else-index-len}
use Rattle.icu_collections_sets.proofs.codepointinvlist.builder.within.toggle.Goals as goal

-- the edge that is there is taken
pub returns-then-index-edge-clause-rises : goal.returns-then-index-edge-clause-rises
returns-then-index-edge-clause-rises c =
    let xs = c.args.edges.now.items in
    let index = c.index_of-index.result in
    let count = subst (λ ys. IsCountBelow ys c.args.edge index) c.as_slice.ensures.value c.index_of-index.ensures in
    let inside : index < length xs = omega (arith, c.if-index-len.true, c.len.ensures, c.as_slice.ensures.len, ap length c.as_slice.ensures.value) in
    (edge_taken xs c.remove.new.self.items index c.args.edge c.requires.rises c.requires.end count inside
    (λ d. get_or_default xs index d c.index.result.now inside ∙ sym c.index.ensures ∙ c.if-index-edge.true) c.remove.ensures.by_index.2).0

pub returns-then-index-edge-clause-toggled : goal.returns-then-index-edge-clause-toggled
returns-then-index-edge-clause-toggled c =
    let xs = c.args.edges.now.items in
    let index = c.index_of-index.result in
    let count = subst (λ ys. IsCountBelow ys c.args.edge index) c.as_slice.ensures.value c.index_of-index.ensures in
    let inside : index < length xs = omega (arith, c.if-index-len.true, c.len.ensures, c.as_slice.ensures.len, ap length c.as_slice.ensures.value) in
    (edge_taken xs c.remove.new.self.items index c.args.edge c.requires.rises c.requires.end count inside
    (λ d. get_or_default xs index d c.index.result.now inside ∙ sym c.index.ensures ∙ c.if-index-edge.true) c.remove.ensures.by_index.2).1

-- an edge is put where there is none
put : (c : goal.In-Ok) → Rises 0 c.insert.new.self.items × IsToggled c.args.edge c.args.edges.now.items c.insert.new.self.items
put c =
    let xs = c.args.edges.now.items in
    let index = c.index_of-index.result in
    let count = subst (λ ys. IsCountBelow ys c.args.edge index) c.as_slice.ensures.value c.index_of-index.ensures in
    let other : (d : ℕ) → index < length xs → get_or xs index d ≢ c.args.edge = λ d inside same.
    elim c.else-index-len.branch [
      | else-index-len-via-then-index-len+else-index-edge w ↦ w.if-index-edge.false (w.index.ensures ∙ get_or_default xs index w.index.result.now d inside ∙ same)
      | else-index-len-via-else-index-len w ↦ omega (arith, w.if-index-len.false, c.len.ensures, c.as_slice.ensures.len, ap length c.as_slice.ensures.value)
    ] in
    edge_put xs c.insert.new.self.items index c.args.edge c.requires.rises c.requires.end count other c.in-Ok.ensures.items

pub returns-in-Ok-clause-rises : goal.returns-in-Ok-clause-rises
returns-in-Ok-clause-rises c = (put c).0

pub returns-in-Ok-clause-toggled : goal.returns-in-Ok-clause-toggled
returns-in-Ok-clause-toggled c = (put c).1
