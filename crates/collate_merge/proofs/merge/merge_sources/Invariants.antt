use Rattle.std.proofs.Common.{◌≡◌, ℕ, List, None}
use Rattle.collate_merge.specs.Merges.{Merge, parts_of}
use Rattle.collate_merge.specs.Sources.{AreLeft, IsOutput}
use Rattle.collate_merge.proofs.ProgressLemmas.{Progress}
use Rattle.collate_merge.proofs.merge.merge_sources.Given as goal

abbrev pub invariant-merge : goal.invariant-merge
invariant-merge g l = (m : Merge) (files : List (List ℕ)) → (m.rule ≡ l.order) × (m.part ≡ l.part) → AreLeft g.R.Read.remaining m files (parts_of m files) l.fn.sources.items
    → IsOutput m None l.fn.output → Progress g.R.Read.remaining m files l.sources.items l.output (g.W.Write.contents l.fn.writer) (g.W.Write.contents l.writer)
