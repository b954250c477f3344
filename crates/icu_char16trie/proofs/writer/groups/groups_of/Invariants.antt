use Rattle.std.proofs.Common.{◌≤◌, ◌-◌, length, drop}
use Rattle.icu_char16trie.proofs.Pairs.GroupLemmas.{SoFar}
use Rattle.icu_char16trie.proofs.writer.groups.groups_of.Given as goal

abbrev pub invariant-loop-start : goal.invariant-loop-start
invariant-loop-start l = (l.start ≤ length l.pairs) × SoFar l.depth l.pairs l.groups.items (drop l.start l.pairs)

abbrev pub decreases-loop-start : goal.decreases-loop-start
decreases-loop-start l = length l.pairs - l.start
