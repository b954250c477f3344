use Rattle.std.proofs.Common.{map, ◌∙◌}
use Rattle.std.proofs.lemmas.Result.{err_from_is_err_and}
use Rattle.serde_json.specs.View.{view}
use Rattle.icu_collections_sets.proofs.texts.JsonLemmas.{not_refused_of, reads_of}
use Rattle.icu_collections_sets.proofs.codepointinvlist.inversion_list.CodePointInversionList.from_json.Goals as goal

pub returns-in_err-edges-clause-reads : goal.returns-in_err-edges-clause-reads
returns-in_err-edges-clause-reads c = λ set h.
    let p = err_from_is_err_and c.from_residual.result c.from_residual.ensures.1 in
    let refused = rw c.deref.ensures.value at c.in_err-edges.ensures in
    rw (p.1, p.2) (not_refused_of (view c.args.value.now) (map view c.in-Some.items.now.items) set _ c.in-Some.ensures h refused)

pub returns-in-Ok-clause-reads : goal.returns-in-Ok-clause-reads
returns-in-Ok-clause-reads c = λ set h.
    let spells = rw c.deref.ensures.value at c.in_ok-edges.ensures in
    reads_of (view c.args.value.now) (map view c.in-Some.items.now.items) c.in_ok-edges.edges.items c.in-Ok.list set c.in-Some.ensures spells (c.in-Ok.ensures.1 ∙ c.deref-2.ensures.value) h
