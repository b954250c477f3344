use Rattle.std.proofs.Common.{ℕ, List, slice_get, ap, ◌∙◌}
use Rattle.collate_index.proofs.search.IndexLemmas.{listed}
use Rattle.collate_index.proofs.index.Index.get.Goals as goal

pub returns : goal.returns
returns c =
    c.get.ensures
    ∙ ap (λ (names : List (List ℕ)). slice_get names c.args.i) (listed c.self.inside c.self.invariant c.args.self.now c.self.view_is)
