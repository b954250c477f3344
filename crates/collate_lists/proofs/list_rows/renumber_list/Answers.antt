use Rattle.std.proofs.Common.{◌≡◌, ◌<◌, ap, arith, length, get_or}
use Rattle.std.proofs.lemmas.List.{get_or_default}
use Rattle.std.proofs.lemmas.List.Edits.{map_over_more}
use Rattle.collate_lists.specs.Lists.{numbered}
use Rattle.collate_lists.specs.declared.windows.FrontedSlot.{FrontedSlot}
use Rattle.collate_lists.proofs.list_rows.renumber_list.Goals as goal

pub loop-value-preserved : goal.loop-value-preserved
loop-value-preserved c =
    let same : length c.deref_mut-value-items.result.now ≡ length c.args.list.now.items = ap length c.deref_mut-value-items.ensures.value in
    let within : c.loop-value.value-index < length c.args.list.now.items = omega (arith, same) in
    let here : c.loop-value.value-index < length c.loop-value.value-items = omega arith in
    let none : FrontedSlot = c.value-item.result in
    let value : FrontedSlot = get_or c.loop-value.value-items c.loop-value.value-index none in
    map_over_more (numbered c.args.numbers.now) c.args.list.now.items c.loop-value.value-items c.loop-value.value-index value
    within c.loop-value.invariant (get_or_default c.loop-value.value-items c.loop-value.value-index none value here)
