use Rattle.std.proofs.Common.{◌≡◌, ℕ, ◌+◌, ◌*◌, ◌<◌, map}
use Rattle.std.specs.Prelude.{slice_index, IsTrue, ◌↔◌}
use Rattle.icu_codepointtrie.proofs.builder.blocks.has_only.Given as goal

abbrev pub invariant-loop-slot : goal.invariant-loop-slot
invariant-loop-slot g l =
    IsTrue l.alike ↔ ((k : ℕ) → k < l.slot → slice_index (map g.T.TrieValue.number l.values) (l.number * l.width + k) ≡ l.value)
