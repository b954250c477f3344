use Rattle.icu_normalizer_core.specs.FormData.{form_meaning}
use Rattle.icu_normalizer.proofs.composed.ClusterLemmas.{apart_nothing, apart_first}
use Rattle.icu_normalizer.proofs.cuts.TextCutLemmas.{first_read}
use Rattle.icu_normalizer.proofs.composing.clusters.next_of_cluster.Goals as goal

pub returns-in_default-clause-none : goal.returns-in_default-clause-none
returns-in_default-clause-none g c = apart_nothing (form_meaning c.args.basis) _ c.in_default.ensures.none.1

pub returns-then-is_steady-clause-none : goal.returns-then-is_steady-clause-none
returns-then-is_steady-clause-none g c =
    apart_first (form_meaning c.args.basis) _ c.unwrap_or-c.result (g.T.Text.spelled c.in-Some.read.1).characters
    (first_read g.T.Text.encode (g.T.Text.spelled c.args.text) (g.T.Text.spelled c.in-Some.read.1) c.in-Some.read.0 c.unwrap_or-c.result c.in-Some.ensures.some c.unwrap_or-c.ensures)
    (c.is_steady.ensures c.if-is_steady.true).0

pub returns-else-is_steady-clause-some : goal.returns-else-is_steady-clause-some
returns-else-is_steady-clause-some g c =
    first_read g.T.Text.encode (g.T.Text.spelled c.args.text) (g.T.Text.spelled c.in-Some.read.1) c.in-Some.read.0 c.unwrap_or-c.result c.in-Some.ensures.some c.unwrap_or-c.ensures
