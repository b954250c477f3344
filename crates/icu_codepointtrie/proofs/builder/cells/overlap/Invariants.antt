use Rattle.std.proofs.Common.{ℕ, ◌+◌, ◌-◌, ◌<◌, ◌≤◌, length, map}
use Rattle.icu_codepointtrie.specs.DataCells.{Stands}
use Rattle.icu_codepointtrie.proofs.builder.cells.overlap.Given as goal

abbrev pub invariant-loop-missing : goal.invariant-loop-missing
invariant-loop-missing g l =
    (count : ℕ) → l.most < count + l.missing → count ≤ l.most → Stands (map g.T.TrieValue.number l.values) l.first (map g.T.TrieValue.number l.cells) (length l.cells - count) count → ⊥
