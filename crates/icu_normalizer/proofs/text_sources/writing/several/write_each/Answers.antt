use Rattle.std.proofs.Common.{◌+◌, [], ◌++◌, sym, ap, subst, ◌∷◌, ◌∙◌, append-nil, take, drop, take-append-drop}
use Rattle.std.proofs.lemmas.List.{take_more, drop_more}
use Rattle.std.specs.Char.Escape.{encode_utf16}
use Rattle.icu_normalizer.specs.Texts.{encode_utf16_all}
use Rattle.icu_normalizer.specs.Encodings.{utf16_encoding}
use Rattle.icu_normalizer.specs.Sinks.{AddsPrefix, nothing, more}
use Rattle.icu_normalizer.proofs.writing.SinkLemmas.{sink_more, sink_part}
use Rattle.icu_normalizer.proofs.text_sources.writing.several.write_each.Goals as goal

pub loop-c-init : goal.loop-c-init
loop-c-init g c = (sym (ap (λ l. g.S.UnitSink.contents c.args.sink.now ++ l) utf16_encoding.nothing ∙ append-nil _), nothing _)

pub returns-in-Err-clause-err : goal.returns-in-Err-clause-err
returns-in-Err-clause-err g c =
    let chars = c.args.chars.now in
    let k = c.loop-c.c-index in
    let part = subst (λ l. AddsPrefix (g.S.UnitSink.contents c.loop-c.sink) l (g.S.UnitSink.contents c.write_char.new.self)) (sym (append-nil (encode_utf16 c.c-item.result))) c.in-Err.ensures.err in
    sink_part encode_utf16_all utf16_encoding _ _ _ chars (take k chars) (drop k chars) c.c-item.result (drop (k + 1) chars) (sym (take-append-drop k chars))
    (drop_more chars k c.c-item.result c.loop-c-test.true ∙ ap (λ x. x ∷ drop (k + 1) chars) (sym c.c-item.is)) c.loop-c.invariant.0 part

pub returns-in-Err-clause-failure : goal.returns-in-Err-clause-failure
returns-in-Err-clause-failure g c = (_, c.loop-c.invariant.1, c.in-Err.ensures.failed)

pub loop-c-preserved : goal.loop-c-preserved
loop-c-preserved g c =
    let chars = c.args.chars.now in
    let k = c.loop-c.c-index in
    let one = c.in_default.ensures.ok ∙ ap (λ l. g.S.UnitSink.contents c.loop-c.sink ++ l) (sym (append-nil (encode_utf16 c.c-item.result))) in (
      sink_more encode_utf16_all utf16_encoding _ _ _ (take k chars) c.c-item.result c.loop-c.invariant.0 one
          ∙ ap (λ l. g.S.UnitSink.contents c.args.sink.now ++ encode_utf16_all l)
          (sym (take_more chars k c.c-item.result c.loop-c-test.true ∙ ap (λ x. take k chars ++ x ∷ []) (sym c.c-item.is))),
      more _ _ _ c.loop-c.invariant.1 c.in_default.ensures.taken,
    )
