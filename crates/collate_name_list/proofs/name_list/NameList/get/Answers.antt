use Rattle.std.proofs.Common.{◌≡◌, ◌∙◌, ap, sym, Some, None, is_some, slice_get, get_or, true≢false}
use Rattle.std.specs.Option.{option_map, option_copied}
use Rattle.collate_name_list.specs.StoredNames.{StoredName, names_of, sorted, key_order}
use Rattle.collate_name_list.specs.Slots.{entry_at, IsFull, slots_of}
use Rattle.collate_name_list.proofs.FrontedLemmas.{slot_read, slot_none}
use Rattle.collate_name_list.proofs.SlotRankLemmas.{full_at, entry_read}
use Rattle.collate_name_list.proofs.KeptLemmas.{name_sorted}
use Rattle.collate_name_list.proofs.name_list.NameList.get.Goals as goal

pub returns-in_err-placed : goal.returns-in_err-placed
returns-in_err-placed c =
    let none : slice_get (slots_of c.self.inside.by_key) c.args.rank ≡ None = slot_none c.self.inside.by_key c.args.rank (sym c.at.ensures ∙ c.in_err-placed.was) in
    let past : slice_get (names_of (sorted c.args.self.now)) c.args.rank ≡ None =
    name_sorted c.self.inside c.self.invariant c.args.self.now c.self.view_is c.args.rank
    ∙ ap (λ o. option_map (λ (e : StoredName). e.name) (option_map (entry_at c.self.inside.slots.items) o)) none in
    cc

pub returns-in_err-stored : goal.returns-in_err-stored
returns-in_err-stored c =
    let full : IsFull c.self.inside.slots.items c.in_ok-placed.placed.slot =
    full_at key_order c.self.inside.slots.items (slots_of c.self.inside.by_key) c.args.rank c.in_ok-placed.placed.slot c.self.invariant.by_key (slot_read c.self.inside.by_key c.args.rank c.in_ok-placed.placed (sym c.at.ensures ∙ c.in_ok-placed.was)) in
    let empty : get_or c.self.inside.slots.items c.in_ok-placed.placed.slot None ≡ None =
    sym (ap (λ slots. get_or slots c.in_ok-placed.placed.slot None) c.as_slice.ensures.value) ∙ sym c.stored_in.ensures ∙ ap option_copied c.in_err-stored.was in
    absurd (true≢false (sym full ∙ ap is_some empty))

pub returns : goal.returns
returns c =
    let there : slice_get (slots_of c.self.inside.by_key) c.args.rank ≡ Some c.in_ok-placed.placed.slot = slot_read c.self.inside.by_key c.args.rank c.in_ok-placed.placed (sym c.at.ensures ∙ c.in_ok-placed.was) in
    let read : get_or c.self.inside.slots.items c.in_ok-placed.placed.slot None ≡ Some c.in_ok-stored.stored.now =
    sym (ap (λ slots. get_or slots c.in_ok-placed.placed.slot None) c.as_slice.ensures.value) ∙ sym c.stored_in.ensures ∙ ap option_copied c.in_ok-stored.was in
    ap (λ bytes. Some bytes) c.as_slice-2.ensures.value
    ∙ sym (name_sorted c.self.inside c.self.invariant c.args.self.now c.self.view_is c.args.rank
    ∙ ap (λ o. option_map (λ (e : StoredName). e.name) (option_map (entry_at c.self.inside.slots.items) o)) there
    ∙ ap (λ (e : StoredName). Some e.name) (entry_read c.self.inside.slots.items c.in_ok-placed.placed.slot c.in_ok-stored.stored.now read))
