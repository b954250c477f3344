use Rattle.std.proofs.Common.{◌≡◌, ap, sym, subst, false, get_or, Some, None}
use Rattle.std.specs.List.{All}
use Rattle.collate_name_list.specs.StoredNames.{StoredName, key_order}
use Rattle.collate_name_list.specs.Slots.{IsFull, slots_of, entry_at}
use Rattle.collate_name_list.proofs.SlotRankLemmas.{all_full, entry_read, parted_for_slot, slot_at_rank}
use Rattle.collate_name_list.proofs.slots.rank_of_slot.Goals as goal

pub rank_of_sought-requires-clause-full : goal.rank_of_sought-requires-clause-full
rank_of_sought-requires-clause-full c = subst (All (IsFull c.args.slots.now)) (sym c.requires.order) (all_full key_order c.args.slots.now)

pub rank_of_sought-requires-clause-parted : goal.rank_of_sought-requires-clause-parted
rank_of_sought-requires-clause-parted c =
    let read : get_or c.args.slots.now c.args.slot None ≡ Some c.in-Some.stored.now = sym c.in-Some.ensures in
    let key : c.in-Some.stored.now.key ≡ (entry_at c.args.slots.now c.args.slot).key = sym (ap (λ (e : StoredName). e.key) (entry_read c.args.slots.now c.args.slot c.in-Some.stored.now read)) in
    parted_for_slot c.args.slots.now (slots_of c.args.by_key.now) c.args.slot c.in-Some.stored.now.key false c.requires.order key

pub returns : goal.returns
returns c =
    let read : get_or c.args.slots.now c.args.slot None ≡ Some c.in-Some.stored.now = sym c.in-Some.ensures in
    let key : c.in-Some.stored.now.key ≡ (entry_at c.args.slots.now c.args.slot).key = sym (ap (λ (e : StoredName). e.key) (entry_read c.args.slots.now c.args.slot c.in-Some.stored.now read)) in
    slot_at_rank c.args.slots.now (slots_of c.args.by_key.now) c.args.slot c.in-Some.stored.now.key c.rank_of_sought.result c.requires.order key c.requires.full c.rank_of_sought.ensures.rank
