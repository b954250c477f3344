use Rattle.std.proofs.Common.{◌≡◌, ◌-◌, ◌++◌, drop, length}
use Rattle.icu_char16trie.proofs.writer.backward.Backward.put_all.Given as goal

abbrev pub invariant-loop-index : goal.invariant-loop-index
invariant-loop-index l = l.self ≡ drop (length l.units - l.index) l.units ++ l.initial.self
