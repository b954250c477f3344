use Rattle.std.proofs.Common.{◌≡◌, ℕ, ◌+◌, List, length}
use Rattle.icu_char16trie.specs.UnitPairs.{rests, prefixed}
use Rattle.icu_char16trie.proofs.writer.groups.run_length.Given as goal

abbrev pub invariant-loop-run : goal.invariant-loop-run
invariant-loop-run l = (run : List ℕ) × (length run ≡ l.run) × (rests l.depth l.pairs ≡ prefixed run (rests (l.depth + l.run) l.pairs))
