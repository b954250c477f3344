use Rattle.std.proofs.Common.{◌++◌, refl, ap, ◌∙◌, subst, sym}
use Rattle.std.proofs.lemmas.Result.{on_ok_weaker, on_err_weaker}
use Rattle.icu_normalizer.specs.Sinks.{AddsPrefix, nothing}
use Rattle.icu_normalizer.proofs.writing.WriterLemmas.{marks_due, few_due, none_of}
use Rattle.icu_normalizer.proofs.decomposing.writer.Writer.write_marks.Goals as goal

pub returns-in_default-clause-failure : goal.returns-in_default-clause-failure
returns-in_default-clause-failure g c = nothing _

pub returns-clause-ok : goal.returns-clause-ok
returns-clause-ok g c =
    let sorted = ap g.T.Text.encode c.deref.ensures ∙ marks_due g.T.Text.encode g.met.T.Text.encoding c.args.self.now _ c.in-Ok.ensures in
    on_ok_weaker c.write_chars-2.result (λ done. done ∙ ap (λ l. g.T.WriteTo.contents c.args.sink.now ++ l) sorted) c.write_chars-2.ensures.ok

pub returns-clause-err : goal.returns-clause-err
returns-clause-err g c =
    let sorted = ap g.T.Text.encode c.deref.ensures ∙ marks_due g.T.Text.encode g.met.T.Text.encoding c.args.self.now _ c.in-Ok.ensures in
    on_err_weaker c.write_chars-2.result
    (λ part. subst (λ l. AddsPrefix (g.T.WriteTo.contents c.args.sink.now) l (g.T.WriteTo.contents c.write_chars-2.new.sink)) sorted part)
    c.write_chars-2.ensures.err

pub returns-then-is_empty-clause-ok : goal.returns-then-is_empty-clause-ok
returns-then-is_empty-clause-ok g c =
    let sorted = few_due g.T.Text.encode g.met.T.Text.encoding c.args.self.now _ refl (sym c.as_slice-more.ensures.value ∙ none_of c.as_slice-more.result.now (sym c.if-is_empty.ensures)) in
    on_ok_weaker c.write_chars.result (λ done. done ∙ ap (λ l. g.T.WriteTo.contents c.args.sink.now ++ l) sorted) c.write_chars.ensures.ok

pub returns-then-is_empty-clause-err : goal.returns-then-is_empty-clause-err
returns-then-is_empty-clause-err g c =
    let sorted = few_due g.T.Text.encode g.met.T.Text.encoding c.args.self.now _ refl (sym c.as_slice-more.ensures.value ∙ none_of c.as_slice-more.result.now (sym c.if-is_empty.ensures)) in
    on_err_weaker c.write_chars.result
    (λ part. subst (λ l. AddsPrefix (g.T.WriteTo.contents c.args.sink.now) l (g.T.WriteTo.contents c.write_chars.new.sink)) sorted part)
    c.write_chars.ensures.err
