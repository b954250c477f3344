use Rattle.icu_codepointtrie.specs.CellRuns.{AreAsSaid}
use Rattle.icu_codepointtrie.proofs.trie.CodePointTrie.first_other.Given as goal

abbrev pub invariant-loop-code_point : goal.invariant-loop-code_point
invariant-loop-code_point g l = AreAsSaid l.self l.value l.owned l.start l.code_point
