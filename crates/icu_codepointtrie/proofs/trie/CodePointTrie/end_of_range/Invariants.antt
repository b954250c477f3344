use Rattle.std.proofs.Common.{◌≤◌, ◌+◌, ◌-◌}
use Rattle.std.specs.Prelude.{IfSome}
use Rattle.icu_codepointtrie.specs.Ranges.{IsConstant}
use Rattle.icu_codepointtrie.specs.SharedBlocks.{IsUniform}
use Rattle.icu_codepointtrie.proofs.trie.CodePointTrie.end_of_range.Given as goal

abbrev pub invariant-loop-next : goal.invariant-loop-next
invariant-loop-next g l = record {
  from : l.start + 1 ≤ l.next;
  to : l.next ≤ 0x11_0000;
  constant : IsConstant l.self l.start l.next l.value;
  uniform : IfSome l.uniform (IsUniform l.self l.value);
}

abbrev pub decreases-loop-next : goal.decreases-loop-next
decreases-loop-next g l = 0x11_0000 - l.next
