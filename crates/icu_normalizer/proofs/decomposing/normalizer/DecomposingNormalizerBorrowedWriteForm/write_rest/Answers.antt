use Rattle.std.proofs.Common.{[], refl, sym, ap, ◌∙◌, append-nil}
use Rattle.std.proofs.lemmas.Result.{on_ok_weaker, on_err_weaker, err_from_is_err_and}
use Rattle.std.specs.List.{flat_map}
use Rattle.std.specs.Prelude.{Err, ⊤}
use Rattle.icu_normalizer.specs.Normalizers.{normalizer_data}
use Rattle.icu_normalizer.specs.Sinks.{nothing}
use Rattle.icu_normalizer.specs.Writer.{due}
use Rattle.icu_normalizer.proofs.writing.SinkLemmas.{taken_both, ends_after}
use Rattle.icu_normalizer.proofs.writing.WriterLemmas.{on_any, front_cut, front_all, front_same, text_due, text_more, text_cut}
use Rattle.icu_normalizer.proofs.decomposing.normalizer.DecomposingNormalizerBorrowedWriteForm.write_rest.Goals as goal

pub chars-init : goal.chars-init
chars-init g c = (
  record {
    written = [];
    whole = text_due g.T.Text.encode g.met.T.Text.encoding c.new-writer.result (normalizer_data c.args.self.now) _ c.new-writer.ensures.same c.new-writer.ensures.empty;
    holds = sym (append-nil _);
  },
  c.new-writer.ensures.same,
  nothing _,
)

pub chars-preserved : goal.chars-preserved
chars-preserved g c =
    let now = c.chars.invariant in (
      text_more g.T.Text.encode g.met.T.Text.encoding _ _ (normalizer_data c.args.self.now) c.in-Some.next.0 _ _ _ _ _ _ now.1
          c.in-Some.ensures.some now.0 (c.in_ok-write_decomposed.ensures.ok.at _),
      c.in_ok-write_decomposed.ensures.same ∙ now.1,
      taken_both _ _ _ now.2 c.in_ok-write_decomposed.ensures.failure,
    )

pub returns-in_err-write_decomposed-clause-err : goal.returns-in_err-write_decomposed-clause-err
returns-in_err-write_decomposed-clause-err g c =
    let now = c.chars.invariant in
    on_any c.from_residual.result
    (text_cut g.T.Text.encode g.met.T.Text.encoding _ (normalizer_data c.args.self.now) c.in-Some.next.0 _ _ _ _ _ _ now.1
    c.in-Some.ensures.some now.0 (c.in_err-write_decomposed.ensures.err.at _))

pub returns-in_err-write_decomposed-clause-failure :
    goal.returns-in_err-write_decomposed-clause-failure
returns-in_err-write_decomposed-clause-failure g c =
    let e = err_from_is_err_and c.from_residual.result c.from_residual.ensures.1 in
    rw (e.1, e.2)
    (ends_after {A = ⊤} g.T.WriteTo.takes g.T.WriteTo.fails _ _ (Err c.in_err-write_decomposed.field-0.0) _ c.chars.invariant.2 c.in_err-write_decomposed.ensures.failure)

pub returns-clause-ok : goal.returns-clause-ok
returns-clause-ok g c =
    let now = c.chars.invariant in
    let last = front_same _ _ _ _ _ _ refl (ap (λ l. due g.T.Text.encode c.chars.writer (flat_map (normalizer_data c.args.self.now).full l)) c.in_default.ensures.none.1) now.0 in
    on_ok_weaker c.flush.result (λ done. front_all _ _ _ _ _ last done) c.flush.ensures.ok

pub returns-clause-err : goal.returns-clause-err
returns-clause-err g c =
    let now = c.chars.invariant in
    let last = front_same _ _ _ _ _ _ refl (ap (λ l. due g.T.Text.encode c.chars.writer (flat_map (normalizer_data c.args.self.now).full l)) c.in_default.ensures.none.1) now.0 in
    on_err_weaker c.flush.result (λ part. front_cut _ _ _ _ _ last part) c.flush.ensures.err

pub returns-clause-failure : goal.returns-clause-failure
returns-clause-failure g c = ends_after g.T.WriteTo.takes g.T.WriteTo.fails _ _ c.flush.result _ c.chars.invariant.2 c.flush.ensures.failure
