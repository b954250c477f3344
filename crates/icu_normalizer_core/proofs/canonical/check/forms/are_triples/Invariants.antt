use Rattle.std.proofs.Common.{ℕ, ◌<◌}
use Rattle.icu_normalizer_core.specs.Triples.{IsTripleAt}
use Rattle.icu_normalizer_core.proofs.canonical.check.forms.are_triples.Given as goal

abbrev pub invariant-loop-index : goal.invariant-loop-index
invariant-loop-index l = (i : ℕ) → i < l.index → IsTripleAt l.steps i
