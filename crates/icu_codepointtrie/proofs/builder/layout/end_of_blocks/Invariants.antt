use Rattle.std.proofs.Common.{◌-◌}
use Rattle.icu_codepointtrie.specs.Layouts.{IsLastRun}
use Rattle.std.proofs.Common.{map}
use Rattle.icu_codepointtrie.proofs.builder.layout.end_of_blocks.Given as goal

abbrev pub invariant-loop-back : goal.invariant-loop-back
invariant-loop-back g l = IsLastRun (map g.T.TrieValue.number l.values) (0x880 - l.back)
