use Rattle.std.proofs.Common.{◌≡◌, map, take}
use Rattle.icu_codepointtrie.proofs.builder.blocks.block_of.Given as goal

abbrev pub invariant-loop-value : goal.invariant-loop-value
invariant-loop-value g l = l.numbers.items ≡ map g.T.TrieValue.number (take l.value-index l.value-items)
