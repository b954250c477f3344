use Rattle.std.proofs.Common.{[], ◌∷◌, ◌++◌, refl, sym, ap, subst, ◌∙◌, append_assoc}
use Rattle.std.proofs.lemmas.Result.{err_from_is_err_and}
use Rattle.std.specs.Prelude.{Err, ⊤}
use Rattle.icu_normalizer.specs.Sinks.{nothing}
use Rattle.icu_normalizer.specs.Writer.{WritesPart}
use Rattle.icu_normalizer.proofs.writing.SinkLemmas.{taken_both, ends_after}
use Rattle.icu_normalizer.proofs.writing.WriterLemmas.{on_any, writes_nothing, writes_both, part_first, part_second}
use Rattle.icu_normalizer.proofs.decomposing.writer.Writer.write_list.Goals as goal

pub loop-d-init : goal.loop-d-init
loop-d-init g c = (writes_nothing g.T.Text.encode g.met.T.Text.encoding _ _, refl, c.into_iter-d-iterator.ensures.into_iter_gives ∙ c.full_list-d-items.ensures, nothing _)

pub loop-d-preserved : goal.loop-d-preserved
loop-d-preserved g c =
    let now = c.loop-d.invariant in (
      writes_both g.T.Text.encode g.met.T.Text.encoding _ _ _ _ _ _ _ _ now.0 c.in_ok-write.ensures.ok,
      c.in_ok-write.ensures.same ∙ now.1,
      append_assoc c.loop-d.yielded (c.in-Some.d ∷ []) c.next.new.self ∙ ap (λ l. c.loop-d.yielded ++ l) (sym c.in-Some.ensures.steps) ∙ now.2,
      taken_both _ _ _ now.3 c.in_ok-write.ensures.failure,
    )

pub returns-in_err-write-clause-err : goal.returns-in_err-write-clause-err
returns-in_err-write-clause-err g c =
    let now = c.loop-d.invariant in
    let all = append_assoc c.loop-d.yielded (c.in-Some.d ∷ []) c.next.new.self ∙ ap (λ l. c.loop-d.yielded ++ l) (sym c.in-Some.ensures.steps) ∙ now.2 in
    on_any c.from_residual.result (
    subst (λ l. WritesPart g.T.Text.encode c.args.self.now l (g.T.WriteTo.contents c.args.sink.now) (g.T.WriteTo.contents c.write.new.sink)) all
    (part_first g.T.Text.encode g.met.T.Text.encoding _ _ c.next.new.self _ _ (part_second g.T.Text.encode g.met.T.Text.encoding _ _ c.loop-d.yielded (c.in-Some.d ∷ []) _ _ _ now.0 c.in_err-write.ensures.err))
    )

pub returns-in_err-write-clause-failure : goal.returns-in_err-write-clause-failure
returns-in_err-write-clause-failure g c =
    let e = err_from_is_err_and c.from_residual.result c.from_residual.ensures.1 in
    rw (e.1, e.2) (ends_after {A = ⊤} g.T.WriteTo.takes g.T.WriteTo.fails _ _ (Err c.in_err-write.field-0.0) _ c.loop-d.invariant.3 c.in_err-write.ensures.failure)
