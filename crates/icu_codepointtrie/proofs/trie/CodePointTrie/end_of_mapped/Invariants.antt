use Rattle.std.proofs.Common.{ℕ, ◌<◌, ◌≤◌, ◌+◌, ◌-◌, true}
use Rattle.icu_codepointtrie.specs.MappedRanges.{IsAlike}
use Rattle.icu_codepointtrie.proofs.trie.CodePointTrie.end_of_mapped.Given as goal

abbrev pub invariant-loop-end : goal.invariant-loop-end
invariant-loop-end g l = record {
  callable : goal.F-IsAlwaysCallable g l.map;
  from : l.start ≤ l.end;
  to : l.end ≤ 0x10_FFFF;
  alike : (c : ℕ) → l.start < c → c < l.end + 1 → IsAlike l.self (λ v w. g.F.Fn.post l.map (v, tt) w) g.U.PartialEq.eq c l.mapped true;
}

abbrev pub decreases-loop-end : goal.decreases-loop-end
decreases-loop-end g l = 0x10_FFFF - l.end
