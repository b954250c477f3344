use Rattle.std.proofs.Common.{[], ◌∷◌, map, string_bytes, refl, ap, ◌∙◌, arith}
use Rattle.std.proofs.lemmas.List.{length-map}
use Rattle.std.proofs.lemmas.Slice.{pushed}
use Rattle.serde_json.specs.Data.{string}
use Rattle.serde_json.specs.View.{view}
use Rattle.icu_collections_sets.proofs.texts.JsonStringListLemmas.{map_more, value_at}
use Rattle.icu_collections_sets.proofs.json.string_list.write_strings.Goals as goal

pub loop-text-preserved : goal.loop-text-preserved
loop-text-preserved c =
    let strings = c.args.strings.now in
    let index = c.loop-text.text-index in
    let value = c.in_ok-try_from_str.field-0 in
    let texts = map string_bytes strings in
    let more = pushed (value ∷ []) refl c.in_ok-push.was c.push.ensures.items in
    let at = c.in_ok-try_from_str.ensures ∙ ap string c.as_str.ensures.value ∙ value_at strings index c.text-item.result c.loop-text-test.true c.text-item.is in
    ap (map view) more ∙ map_more view c.loop-text.texts.items value (map string texts) index (omega (arith, c.loop-text-test.true, length-map strings string_bytes, length-map texts string)) c.loop-text.invariant at
