use Rattle.std.proofs.Common.{◌≡◌, ◌++◌, sym, ap, subst, ◌∙◌, take, drop, take-append-drop, append_assoc}
use Rattle.std.proofs.lemmas.List.{take_rest}
use Rattle.std.proofs.lemmas.Result.{on_ok_weaker, on_err_weaker}
use Rattle.icu_normalizer.specs.Encodings.{utf16_encoding}
use Rattle.icu_normalizer.specs.Sinks.{AddsPrefix, nothing, more}
use Rattle.icu_normalizer.specs.Texts.{encode_utf16_all}
use Rattle.icu_normalizer.proofs.writing.SinkLemmas.{joined_front, joined_back, ends_after}
use Rattle.icu_normalizer.proofs.text_sources.writing.several.write_unit_chars.Goals as goal

pub returns-in-Err-clause-err : goal.returns-in-Err-clause-err
returns-in-Err-clause-err g c =
    let chars = c.args.chars.now in
    let n = c.put_units-count.result in
    let both : encode_utf16_all (take n chars) ++ encode_utf16_all (drop n chars) ≡ encode_utf16_all chars =
    sym (utf16_encoding.append (take n chars) (drop n chars)) ∙ ap encode_utf16_all (take-append-drop n chars) in
    joined_front _ _ _ _ _ (ap (λ l. l ++ encode_utf16_all (drop n chars)) c.put_units-count.ensures.units ∙ both) c.in-Err.ensures.err

pub returns-in-Err-clause-failure : goal.returns-in-Err-clause-failure
returns-in-Err-clause-failure g c = (_, nothing _, c.in-Err.ensures.failed)

pub returns-clause-ok : goal.returns-clause-ok
returns-clause-ok g c =
    let chars = c.args.chars.now in
    let n = c.put_units-count.result in
    let both : encode_utf16_all (take n chars) ++ encode_utf16_all (drop n chars) ≡ encode_utf16_all chars =
    sym (utf16_encoding.append (take n chars) (drop n chars)) ∙ ap encode_utf16_all (take-append-drop n chars) in
    on_ok_weaker c.write_each.result
    (λ done. done ∙ ap (λ l. g.S.UnitSink.contents c.write_slice.new.self ++ encode_utf16_all l) (take_rest chars n)
    ∙ ap (λ l. l ++ encode_utf16_all (drop n chars)) (c.in_default.ensures.ok ∙ ap (λ l. g.S.UnitSink.contents c.args.sink.now ++ l) c.put_units-count.ensures.units)
    ∙ append_assoc (g.S.UnitSink.contents c.args.sink.now) (encode_utf16_all (take n chars)) (encode_utf16_all (drop n chars))
    ∙ ap (λ l. g.S.UnitSink.contents c.args.sink.now ++ l) both)
    c.write_each.ensures.ok

pub returns-clause-err : goal.returns-clause-err
returns-clause-err g c =
    let chars = c.args.chars.now in
    let n = c.put_units-count.result in
    let both : encode_utf16_all (take n chars) ++ encode_utf16_all (drop n chars) ≡ encode_utf16_all chars =
    sym (utf16_encoding.append (take n chars) (drop n chars)) ∙ ap encode_utf16_all (take-append-drop n chars) in
    on_err_weaker c.write_each.result
    (λ part. joined_back (g.S.UnitSink.contents c.args.sink.now) (g.S.UnitSink.contents c.write_slice.new.self) (g.S.UnitSink.contents c.write_each.new.sink)
    (encode_utf16_all (take n chars)) (encode_utf16_all (drop n chars)) (encode_utf16_all chars) both
    (c.in_default.ensures.ok ∙ ap (λ l. g.S.UnitSink.contents c.args.sink.now ++ l) c.put_units-count.ensures.units)
    (subst (λ l. AddsPrefix (g.S.UnitSink.contents c.write_slice.new.self) (encode_utf16_all l) (g.S.UnitSink.contents c.write_each.new.sink)) (take_rest chars n) part))
    c.write_each.ensures.err

pub returns-clause-failure : goal.returns-clause-failure
returns-clause-failure g c =
    ends_after g.S.UnitSink.takes g.S.UnitSink.fails _ _ c.write_each.result _ (more _ _ _ (nothing _) c.in_default.ensures.taken) c.write_each.ensures.failure
