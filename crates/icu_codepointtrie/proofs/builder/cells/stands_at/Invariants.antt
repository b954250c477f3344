use Rattle.std.proofs.Common.{◌≡◌, ℕ, ◌+◌, ◌<◌, map}
use Rattle.std.specs.Prelude.{slice_index}
use Rattle.icu_codepointtrie.proofs.builder.cells.stands_at.Given as goal

abbrev pub invariant-loop-i : goal.invariant-loop-i
invariant-loop-i g l =
    (k : ℕ) → k < l.i → slice_index (map g.T.TrieValue.number l.cells) (l.slot + k) ≡ slice_index (map g.T.TrieValue.number l.values) (l.first + k)
