use Rattle.std.proofs.Common.{refl}
use Rattle.std.proofs.lemmas.Result.{on_err_weaker}
use Rattle.icu_normalizer.specs.Sinks.{nothing, more}
use Rattle.icu_normalizer.proofs.writing.SinkLemmas.{joined_front, joined_back, ends_after}
use Rattle.icu_normalizer.proofs.written.write_parts.Goals as goal

pub returns-in-Err-clause-err : goal.returns-in-Err-clause-err
returns-in-Err-clause-err g c = joined_front _ _ _ _ _ refl c.in-Err.ensures.err

pub returns-in-Err-clause-failure : goal.returns-in-Err-clause-failure
returns-in-Err-clause-failure g c = (_, nothing _, c.in-Err.ensures.failed)

pub returns-clause-err : goal.returns-clause-err
returns-clause-err g c =
    on_err_weaker c.write_rest.result (λ cut. joined_back _ _ _ _ _ _ refl c.in_default.ensures.ok cut) c.write_rest.ensures.err

pub returns-clause-failure : goal.returns-clause-failure
returns-clause-failure g c =
    ends_after g.T.WriteTo.takes g.T.WriteTo.fails _ _ c.write_rest.result _ (more _ _ _ (nothing _) c.in_default.ensures.taken) c.write_rest.ensures.failure
