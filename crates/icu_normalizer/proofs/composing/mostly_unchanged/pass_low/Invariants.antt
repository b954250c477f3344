use Rattle.std.proofs.Common.{length}
use Rattle.icu_normalizer_core.specs.FormData.{form_meaning}
use Rattle.icu_normalizer.proofs.passed.SkipLemmas.{IsSkipping}
use Rattle.icu_normalizer.proofs.composing.mostly_unchanged.pass_low.Given as goal

abbrev pub invariant-chars : goal.invariant-chars
invariant-chars g l = IsSkipping g.T.Text.encode (form_meaning l.fn.basis) (g.T.Text.spelled l.fn.text) (g.T.Text.spelled l.rest) (g.T.Text.spelled l.ahead)

abbrev pub decreases-chars : goal.decreases-chars
decreases-chars g l = length (g.T.Text.spelled l.ahead).units
