use Rattle.icu_codepointtrie.specs.Ranges.{IsConstant}
use Rattle.icu_codepointtrie.proofs.trie.CodePointTrie.first_without.Given as goal

abbrev pub invariant-loop-code_point : goal.invariant-loop-code_point
invariant-loop-code_point g l = IsConstant l.self l.start l.code_point l.value
