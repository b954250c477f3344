use Rattle.std.proofs.Common.{[], ◌∷◌}
use Rattle.std.proofs.lemmas.Result.{on_ok_weaker, on_err_weaker}
use Rattle.icu_normalizer.proofs.writing.SinkLemmas.{ends_after}
use Rattle.icu_normalizer.proofs.writing.WriterLemmas.{on_any, writes_both, part_first, part_second}
use Rattle.icu_normalizer.proofs.decomposing.writer.Writer.write_both.Goals as goal

pub returns-in_err-write-clause-err : goal.returns-in_err-write-clause-err
returns-in_err-write-clause-err g c =
    on_any c.from_residual.result (part_first g.T.Text.encode g.met.T.Text.encoding c.args.self.now (c.args.first ∷ []) (c.args.second ∷ []) _ _ c.in_err-write.ensures.err)

pub returns-clause-ok : goal.returns-clause-ok
returns-clause-ok g c =
    on_ok_weaker c.write-2.result (λ second. writes_both g.T.Text.encode g.met.T.Text.encoding _ _ _ (c.args.first ∷ []) (c.args.second ∷ []) _ _ _ c.in_ok-write.ensures.ok second) c.write-2.ensures.ok

pub returns-clause-err : goal.returns-clause-err
returns-clause-err g c =
    on_err_weaker c.write-2.result (λ second. part_second g.T.Text.encode g.met.T.Text.encoding _ _ (c.args.first ∷ []) (c.args.second ∷ []) _ _ _ c.in_ok-write.ensures.ok second) c.write-2.ensures.err

pub returns-clause-failure : goal.returns-clause-failure
returns-clause-failure g c =
    ends_after g.T.WriteTo.takes g.T.WriteTo.fails _ _ c.write-2.result _ c.in_ok-write.ensures.failure c.write-2.ensures.failure
