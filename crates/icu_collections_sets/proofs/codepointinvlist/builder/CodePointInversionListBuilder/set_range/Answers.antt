use Rattle.std.proofs.Common.{◌+◌, sym, subst}
use Rattle.icu_collections_sets.specs.CodePoints.{IsInversionList}
use Rattle.icu_collections_sets.specs.SetEdits.{IsCountBelow}
use Rattle.icu_collections_sets.proofs.edits.SetEditLemmas.{edited_from_put, edited_holds, edited_list}
use Rattle.icu_collections_sets.proofs.codepointinvlist.builder.CodePointInversionListBuilder.set_range.Goals as goal

pub invariant_of-self-2 : goal.invariant_of-self-2
invariant_of-self-2 c =
    let xs = c.self.inside.edges.items in
    let front = subst (λ ys. IsCountBelow ys c.args.from c.index_of-front.result) c.as_slice.ensures.value c.index_of-front.ensures in
    let back = subst (λ ys. IsCountBelow ys (c.args.till + 1) c.index_of-back.result) c.as_slice-2.ensures.value c.index_of-back.ensures in
    let put = edited_from_put xs c.put_stretch.new.edges.items c.args.from c.args.till c.index_of-front.result c.index_of-back.result c.args.held c.in_ok-put_stretch.ensures.ok in
    subst IsInversionList (sym put) (edited_list xs c.args.from c.args.till c.index_of-front.result c.index_of-back.result c.args.held c.self.invariant c.requires.rise c.requires.end front back)

pub returns-clause-ok : goal.returns-clause-ok
returns-clause-ok c =
    let xs = c.self.inside.edges.items in
    let front = subst (λ ys. IsCountBelow ys c.args.from c.index_of-front.result) c.as_slice.ensures.value c.index_of-front.ensures in
    let back = subst (λ ys. IsCountBelow ys (c.args.till + 1) c.index_of-back.result) c.as_slice-2.ensures.value c.index_of-back.ensures in
    let put = edited_from_put xs c.put_stretch.new.edges.items c.args.from c.args.till c.index_of-front.result c.index_of-back.result c.args.held c.in_ok-put_stretch.ensures.ok in
    rw (put, ← c.self.view_is) (edited_holds xs c.args.from c.args.till c.index_of-front.result c.index_of-back.result c.args.held c.self.invariant c.requires.rise c.requires.end front back)
