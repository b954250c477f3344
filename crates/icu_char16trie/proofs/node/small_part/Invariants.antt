use Rattle.icu_char16trie.proofs.Cursors.SearchLemmas.{IsHalved}
use Rattle.icu_char16trie.proofs.node.small_part.Given as goal

abbrev pub invariant-loop-part : goal.invariant-loop-part
invariant-loop-part l = IsHalved l.units l.unit l.fn.branch l.part

abbrev pub decreases-loop-part : goal.decreases-loop-part
decreases-loop-part l = l.part.count
