use Rattle.std.proofs.Common.{sym, ◌∙◌}
use Rattle.collate_index.proofs.search.IndexLemmas.{length_listed, length_sorted}
use Rattle.collate_index.proofs.index.Index.len.Goals as goal

pub returns-clause-sorted : goal.returns-clause-sorted
returns-clause-sorted c =
    c.len.ensures ∙ sym (length_sorted c.self.inside.names) ∙ length_listed c.self.inside c.self.invariant c.args.self.now c.self.view_is
