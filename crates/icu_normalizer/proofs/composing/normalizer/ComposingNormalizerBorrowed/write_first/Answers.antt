use Rattle.icu_normalizer.specs.Normalizers.{composing_data}
use Rattle.icu_normalizer.proofs.composed.LoneMarkLemmas.{lone_cut, lone_fewer, lone_written}
use Rattle.icu_normalizer.proofs.composing.normalizer.ComposingNormalizerBorrowed.write_first.Goals as goal

pub returns-in-Ok-clause-ok : goal.returns-in-Ok-clause-ok
returns-in-Ok-clause-ok g c =
    lone_written g.T.Text.encode g.met.T.Text.encoding (composing_data c.args.self.now) _ _ c.in-Some.lone.0 c.in-Some.ensures _ _ c.in-Ok.ensures.ok

pub returns-in-Ok-clause-fewer : goal.returns-in-Ok-clause-fewer
returns-in-Ok-clause-fewer g c =
    lone_fewer g.T.Text.encode g.met.T.Text.encoding (composing_data c.args.self.now) _ _ c.in-Some.lone.0 c.in-Some.ensures

pub returns-in-Err-clause-err : goal.returns-in-Err-clause-err
returns-in-Err-clause-err g c =
    lone_cut g.T.Text.encode g.met.T.Text.encoding (composing_data c.args.self.now) _ _ c.in-Some.lone.0 c.in-Some.ensures _ _ c.in-Err.ensures.err
