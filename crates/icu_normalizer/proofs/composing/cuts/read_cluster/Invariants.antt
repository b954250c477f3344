use Rattle.std.proofs.Common.{length}
use Rattle.icu_normalizer_core.specs.FormData.{form_meaning}
use Rattle.icu_normalizer.specs.ClusterForm.{IsBegun, form_left}
use Rattle.icu_normalizer.proofs.composed.ComposedWalkLemmas.{IsBeside}
use Rattle.icu_normalizer.proofs.composing.cuts.read_cluster.Given as goal

abbrev pub invariant-chars : goal.invariant-chars
invariant-chars g l =
    IsBeside g.T.Text.encode (form_meaning l.fn.basis) (g.T.Text.spelled l.fn.text) (g.T.Text.spelled l.rest) (g.T.Text.spelled l.ahead) (form_left l.form)
    × IsBegun l.form

abbrev pub decreases-chars : goal.decreases-chars
decreases-chars g l = length (g.T.Text.spelled l.ahead).units
