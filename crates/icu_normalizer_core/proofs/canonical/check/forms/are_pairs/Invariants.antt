use Rattle.std.proofs.Common.{ℕ, ◌<◌}
use Rattle.icu_normalizer_core.specs.Triples.{IsPairAt}
use Rattle.icu_normalizer_core.proofs.canonical.check.forms.are_pairs.Given as goal

abbrev pub invariant-loop-index : goal.invariant-loop-index
invariant-loop-index l = (i : ℕ) → i < l.index → IsPairAt l.pairs i
