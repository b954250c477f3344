use Rattle.std.proofs.Common.{◌≡◌, ◌+◌, ◌∷◌, [], take}
use Rattle.icu_char16trie.specs.UnitPairs.{rests, prefixed}
use Rattle.icu_char16trie.proofs.writer.groups.group_length.Given as goal

abbrev pub invariant-loop-index : goal.invariant-loop-index
invariant-loop-index l = rests l.depth (take l.index l.pairs) ≡ prefixed (l.unit ∷ []) (rests (l.depth + 1) (take l.index l.pairs))
