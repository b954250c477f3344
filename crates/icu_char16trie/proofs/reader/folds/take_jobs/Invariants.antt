use Rattle.std.proofs.Common.{length}
use Rattle.icu_char16trie.specs.KeyFolds.{IsFolding, weight}
use Rattle.icu_char16trie.specs.declared.reader.folds.Job.{Job}
use Rattle.icu_char16trie.proofs.reader.folds.take_jobs.Given as goal

abbrev pub invariant-loop-job : goal.invariant-loop-job
invariant-loop-job g l =
    (first : Job g.row.F-Folded.Denot) → IsFolding (g.F.KeyFold.onward l.fold) l.units first l.fn.jobs.items l.fn.results.items
    → IsFolding (g.F.KeyFold.onward l.fold) l.units first l.jobs.items l.results.items

abbrev pub decreases-loop-job : goal.decreases-loop-job
decreases-loop-job g l = weight (length l.units) l.jobs.items
