use Rattle.std.proofs.Common.{◌≡◌, [], ◌∷◌, ◌++◌, Some, Bool, cond, not, map, string_bytes, sym, ap, ◌∙◌, arith}
use Rattle.std.proofs.lemmas.List.{length-map}
use Rattle.serde_json.specs.Data.{string}
use Rattle.serde_json.specs.Find.{as_array}
use Rattle.serde_json.specs.View.{view, items_of}
use Rattle.icu_collections_sets.proofs.texts.JsonLemmas.{item_at-map}
use Rattle.icu_collections_sets.proofs.texts.JsonStringListLemmas.{no_texts, string_of, map_more_texts}
use Rattle.icu_collections_sets.proofs.json.string_list.read_strings.Goals as goal

pub returns-in_default-as_str : goal.returns-in_default-as_str
returns-in_default-as_str c = λ texts is.
    let items = c.deref-item-items.result.now in
    let array : Some (items_of (map view items)) ≡ as_array (view c.args.value.now) = rw c.deref-item-items.ensures.value c.in-Some.ensures in
    no_texts (view c.args.value.now) items texts c.loop-item.item-index c.item-item.result array c.loop-item-test.true c.item-item.is (sym c.in_default-as_str.ensures) is

pub loop-item-preserved : goal.loop-item-preserved
loop-item-preserved c =
    let items = c.deref-item-items.result.now in
    let index = c.loop-item.item-index in
    let text = c.in_ok-from_str.field-0 in
    let texts = c.loop-item.texts.items in
    let ok = c.is_err.ensures.negation ∙ ap not c.if-is_err.false in
    let more = c.push.ensures.items ∙ ap (λ (b : Bool). cond b (texts ++ (text ∷ [])) texts) ok in
    let is = string_of (view c.item-item.result) c.in-Some-as_str.text.now (sym c.in-Some-as_str.ensures) in
    let at = ap string c.in_ok-from_str.ensures.ok ∙ sym is ∙ sym (item_at-map items index c.item-item.result c.loop-item-test.true c.item-item.is) in
    ap (λ xs. map string (map string_bytes xs)) more ∙ map_more_texts texts text (map view items) index (omega (arith, c.loop-item-test.true, length-map items view)) c.loop-item.invariant at
