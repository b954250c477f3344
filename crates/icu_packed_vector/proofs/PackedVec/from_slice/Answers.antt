use Rattle.std.proofs.Common.{◌++◌, [], ◌∷◌, take, ap, sym, ◌∙◌}
use Rattle.std.proofs.lemmas.List.{take_more}
use Rattle.icu_packed_vector.proofs.ItemLemmas.{items_of-nil, AreItems-nil, items_of_push, AreItems-push}
use Rattle.icu_packed_vector.proofs.PackedVec.from_slice.Goals as goal

pub loop-item-init : goal.loop-item-init
loop-item-init g c =
    rw c.new-bytes.ensures.items (
      AreItems-nil g.T.PackedItem.WIDTH g.met.T.PackedItem.width_positive,
      items_of-nil g.T.PackedItem.WIDTH g.T.PackedItem.meaning g.met.T.PackedItem.width_positive,
    )

pub loop-item-preserved : goal.loop-item-preserved
loop-item-preserved g c =
    let P = g.T.PackedItem in
    let law = g.met.T.PackedItem in
    let item = c.item-item.result in
    let value = c.in_ok-write.ensures.value in
    let width = law.encoding_width item in
    let more = items_of_push P.WIDTH P.meaning c.loop-item.bytes.items (P.encoding item) law.width_positive c.loop-item.invariant.0.whole width in
    let last = law.encoding_means item value in
    let taken = take_more c.args.items.now c.loop-item.item-index item c.loop-item-test.true in
    rw c.in_ok-write.ensures.appended (
      AreItems-push P.WIDTH c.loop-item.bytes.items (P.encoding item) law.width_positive c.loop-item.invariant.0 width (law.encoding_is_encoding item value),
      more ∙ ap (λ xs. xs ++ P.meaning (P.encoding item) ∷ []) c.loop-item.invariant.1 ∙ ap (λ x. take c.loop-item.item-index c.args.items.now ++ x ∷ []) (last ∙ c.item-item.is) ∙ sym taken,
    )
