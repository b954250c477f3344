use Rattle.std.proofs.Common.{◌≡◌, ◌<◌, ◌∙◌, None, get_or, length, ap, arith}
use Rattle.std.proofs.lemmas.List.{get_or_read}
use Rattle.collate_name_list.specs.Keys.{key_before, slot_with_key}
use Rattle.collate_name_list.proofs.RekeyLemmas.{all_before, all_changed, changed_more}
use Rattle.collate_name_list.proofs.keys.swap_keys.Goals as goal

pub slots-preserved : goal.slots-preserved
slots-preserved c =
    let new = c.slots.slots.items in
    let left = c.slots.keys.items in
    let at = c.slots.slot in
    let within : at < length c.args.slots.now.items = omega (arith, c.slots-test.true, c.len-slot-end.ensures, c.args.slots.now.ok.0) in
    let slot : c.index_mut.result.now ≡ get_or new at None = get_or_read new at c.index_mut.result.now (omega (arith, within, c.slots.invariant.slot_count)) c.index_mut.ensures.value None in
    let key : c.index_mut-in-slots.result.now ≡ get_or left at None =
    get_or_read left at c.index_mut-in-slots.result.now (omega (arith, within, c.slots.invariant.key_count, c.requires)) c.index_mut-in-slots.ensures.value None in
    changed_more c.args.slots.now.items new c.args.keys.now.items left at c.slots.invariant within c.requires c.swap_key.new.slot c.swap_key.new.key
    (c.swap_key.ensures.slot ∙ ap (λ s. slot_with_key s c.index_mut-in-slots.result.now) slot ∙ ap (λ k. slot_with_key (get_or new at None) k) key)
    (c.swap_key.ensures.key ∙ ap (λ s. key_before s c.index_mut-in-slots.result.now) slot ∙ ap (λ k. key_before (get_or new at None) k) key)

pub returns-clause-slots : goal.returns-clause-slots
returns-clause-slots c =
    all_changed c.args.slots.now.items c.slots.slots.items c.args.keys.now.items c.slots.keys.items c.slots.slot c.slots.invariant (omega (arith, c.slots-test.false, c.len-slot-end.ensures, c.args.slots.now.ok.0)) c.requires

pub returns-clause-keys : goal.returns-clause-keys
returns-clause-keys c =
    all_before c.args.slots.now.items c.slots.slots.items c.args.keys.now.items c.slots.keys.items c.slots.slot c.slots.invariant (omega (arith, c.slots-test.false, c.len-slot-end.ensures, c.args.slots.now.ok.0)) c.requires
