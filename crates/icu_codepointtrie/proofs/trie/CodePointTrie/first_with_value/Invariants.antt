use Rattle.std.proofs.Common.{◌≤◌, ◌-◌}
use Rattle.icu_codepointtrie.specs.Ranges.{IsAbsent}
use Rattle.icu_codepointtrie.proofs.trie.CodePointTrie.first_with_value.Given as goal

abbrev pub invariant-loop-next : goal.invariant-loop-next
invariant-loop-next g l = record { from : l.start ≤ l.next; absent : IsAbsent l.self l.start l.next l.value }

abbrev pub decreases-loop-next : goal.decreases-loop-next
decreases-loop-next g l = 0x11_0000 - l.next
