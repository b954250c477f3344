use Rattle.std.proofs.Common.{◌≤◌, length}
use Rattle.icu_char16trie.proofs.reader.folds.index_for.Given as goal

abbrev pub invariant-loop-at : goal.invariant-loop-at
invariant-loop-at g l = l.at ≤ length l.jobs

abbrev pub decreases-loop-at : goal.decreases-loop-at
decreases-loop-at g l = l.at
