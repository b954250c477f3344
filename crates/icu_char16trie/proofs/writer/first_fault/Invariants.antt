use Rattle.icu_char16trie.specs.WrittenUnits.{keyed, NoneBefore}
use Rattle.icu_char16trie.proofs.writer.first_fault.Given as goal

abbrev pub invariant-loop-index : goal.invariant-loop-index
invariant-loop-index l = NoneBefore (keyed l.pairs) l.index
