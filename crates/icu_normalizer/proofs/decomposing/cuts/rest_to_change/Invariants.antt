use Rattle.std.proofs.Common.{length}
use Rattle.icu_normalizer_core.specs.FormData.{form_meaning}
use Rattle.icu_normalizer.proofs.passed.TextWalkLemmas.{IsWalkedTo}
use Rattle.icu_normalizer.proofs.decomposing.cuts.rest_to_change.Given as goal

abbrev pub invariant-chars : goal.invariant-chars
invariant-chars g l = IsWalkedTo g.T.Text.encode (form_meaning l.fn.basis) (g.T.Text.spelled l.fn.text) (g.T.Text.spelled l.rest) (g.T.Text.spelled l.ahead) l.before

abbrev pub decreases-chars : goal.decreases-chars
decreases-chars g l = length (g.T.Text.spelled l.ahead).units
