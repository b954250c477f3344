use Rattle.icu_char16trie.specs.UnitPairs.{rests}
use Rattle.icu_char16trie.specs.UnitWritingTasks.{Finishes, weight}
use Rattle.icu_char16trie.proofs.writer.layout.write_pairs.Given as goal

abbrev pub invariant-loop-task : goal.invariant-loop-task
invariant-loop-task l = Finishes (rests 0 l.pairs) l.tasks l.marks l.out

abbrev pub decreases-loop-task : goal.decreases-loop-task
decreases-loop-task l = weight l.tasks
