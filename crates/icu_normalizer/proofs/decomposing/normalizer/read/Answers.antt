use Rattle.icu_normalizer.proofs.cuts.TextCutLemmas.{first_read}
use Rattle.icu_normalizer.proofs.decomposing.normalizer.read.Goals as goal

pub returns-clause-some : goal.returns-clause-some
returns-clause-some g c =
    first_read g.T.Text.encode (g.T.Text.spelled c.args.text) (g.T.Text.spelled c.in_ok-read.read.1) c.in_ok-read.read.0 c.unwrap_or.result c.in_ok-read.ensures.some c.unwrap_or.ensures
