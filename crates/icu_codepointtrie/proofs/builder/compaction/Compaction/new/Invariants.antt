use Rattle.std.proofs.Common.{◌≤◌, length, map}
use Rattle.icu_codepointtrie.specs.Blocks.{AreKept, AreSlots, FindsKept}
use Rattle.icu_codepointtrie.proofs.builder.compaction.Compaction.new.Given as goal

abbrev pub invariant-loop-number : goal.invariant-loop-number
invariant-loop-number g l = record {
  kept : AreKept l.width (map g.T.TrieValue.number l.values) l.first l.number l.kept.items;
  slots : AreSlots l.width (map g.T.TrieValue.number l.values) l.first l.number l.slots.items l.kept.items;
  found : FindsKept l.width (map g.T.TrieValue.number l.values) l.kept.items l.found;
  few : length l.kept.items ≤ l.limit;
}
