use Rattle.std.proofs.Common.{◌≡◌, ◌≤◌, ◌+◌, ◌-◌}
use Rattle.std.specs.Prelude.{IfSome}
use Rattle.icu_codepointtrie.specs.CellRuns.{AreAsSaid, IsKeyAsSaid}
use Rattle.icu_codepointtrie.proofs.trie.CodePointTrie.cells_end.Given as goal

abbrev pub invariant-loop-next : goal.invariant-loop-next
invariant-loop-next g l = record {
  from : l.start + 1 ≤ l.next;
  to : l.next ≤ 0x11_0000;
  alike : AreAsSaid l.self l.value l.owned l.start l.next;
  uniform : IfSome l.uniform (IsKeyAsSaid l.self l.value l.owned);
}

abbrev pub decreases-loop-next : goal.decreases-loop-next
decreases-loop-next g l = 0x11_0000 - l.next
