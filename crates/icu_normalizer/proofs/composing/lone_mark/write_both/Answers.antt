use Rattle.std.proofs.Common.{[], ◌∷◌, refl, sym}
use Rattle.std.proofs.lemmas.Result.{on_ok_weaker, on_err_weaker}
use Rattle.icu_normalizer.proofs.writing.SinkLemmas.{ends_after, joined_front, sink_more, sink_part}
use Rattle.icu_normalizer.proofs.composing.lone_mark.write_both.Goals as goal

pub returns-in-Ok-clause-ok : goal.returns-in-Ok-clause-ok
returns-in-Ok-clause-ok g c =
    on_ok_weaker c.write_char-in-Ok.result (λ second. sink_more g.T.Text.encode g.met.T.Text.encoding _ _ _ (c.args.first ∷ []) c.args.second c.in-Ok.ensures.ok second) c.write_char-in-Ok.ensures.ok

pub returns-in-Ok-clause-err : goal.returns-in-Ok-clause-err
returns-in-Ok-clause-err g c =
    on_err_weaker c.write_char-in-Ok.result
    (λ second. sink_part g.T.Text.encode g.met.T.Text.encoding _ _ _ (c.args.first ∷ c.args.second ∷ []) (c.args.first ∷ []) (c.args.second ∷ []) c.args.second [] refl refl c.in-Ok.ensures.ok second)
    c.write_char-in-Ok.ensures.err

pub returns-in-Ok-clause-failure : goal.returns-in-Ok-clause-failure
returns-in-Ok-clause-failure g c =
    ends_after g.T.WriteTo.takes g.T.WriteTo.fails _ _ c.write_char-in-Ok.result _ c.in-Ok.ensures.failure c.write_char-in-Ok.ensures.failure

pub returns-in-Err-clause-err : goal.returns-in-Err-clause-err
returns-in-Err-clause-err g c =
    joined_front _ _ (g.T.Text.encode (c.args.first ∷ [])) (g.T.Text.encode (c.args.second ∷ [])) _ (sym (g.met.T.Text.encoding.append (c.args.first ∷ []) (c.args.second ∷ []))) c.in-Err.ensures.err
