use Rattle.std.proofs.Common.{◌≡◌}
use Rattle.icu_char16trie.specs.UnitSteps.{target_in}
use Rattle.icu_char16trie.proofs.node.target_in.Given as goal

abbrev pub invariant-loop-left : goal.invariant-loop-left
invariant-loop-left l = target_in l.units l.unit l.entries l.fn.index ≡ target_in l.units l.unit l.left l.index

abbrev pub decreases-loop-left : goal.decreases-loop-left
decreases-loop-left l = l.left
