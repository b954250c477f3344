use Rattle.std.proofs.Common.{length}
use Rattle.icu_normalizer_core.specs.Canonical.{composed}
use Rattle.icu_normalizer_core.specs.FormData.{form_meaning}
use Rattle.icu_normalizer.specs.TextCuts.{IsPassed}
use Rattle.icu_normalizer.proofs.composing.cuts.rest_to_change.Given as goal

abbrev pub invariant-clusters : goal.invariant-clusters
invariant-clusters g l = IsPassed g.T.Text.encode (composed (form_meaning l.fn.basis)) (g.T.Text.spelled l.fn.text) (g.T.Text.spelled l.left)

abbrev pub decreases-clusters : goal.decreases-clusters
decreases-clusters g l = length (g.T.Text.spelled l.left).characters
