use Rattle.std.proofs.Common.{◌++◌, take, drop, ap, sym, ◌∙◌}
use Rattle.std.proofs.lemmas.Iterator.{YieldsList-from_slice, items_from_drains}
use Rattle.std.proofs.lemmas.Iterator.Consumers.{YieldsList-from_copied}
use Rattle.std.proofs.lemmas.List.{map-id}
use Rattle.icu_collections_sets.proofs.codepointinvlist.builder.put.Goals as goal

pub returns-clause-ok : goal.returns-clause-ok
returns-clause-ok c =
    let given = c.in_ok-splice.ensures.items in
    let same = items_from_drains given.1 (given.3.1.0, given.3.1.1, λ _. (given.3.0, given.3.1.2)) (YieldsList-from_copied (YieldsList-from_slice c.args.with.now (cc))) in
    given.4 ∙ ap (λ ys. take c.args.indices.start c.args.edges.now.items ++ (ys ++ drop c.args.indices.end c.args.edges.now.items)) (sym (map-id given.1) ∙ same)
