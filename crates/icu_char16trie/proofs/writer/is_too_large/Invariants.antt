use Rattle.std.proofs.Common.{◌≡◌, ◌+◌, take}
use Rattle.icu_char16trie.specs.WrittenUnits.{keyed, total}
use Rattle.icu_char16trie.proofs.writer.is_too_large.Given as goal

abbrev pub invariant-loop-key : goal.invariant-loop-key
invariant-loop-key l = l.left + total (keyed (take l.key-index l.pairs)) ≡ 268_435_456
