use Rattle.std.proofs.Common.{◌≡◌, ◌∙◌, List, Option, refl, sym, ap, length, is_some}
use Rattle.std.specs.List.{filter}
use Rattle.collate_lists.specs.Lists.{renumbered}
use Rattle.collate_name_list.specs.StoredNames.{key_order, rekeyed}
use Rattle.collate_name_list.specs.Slots.{IsKept, entries}
use Rattle.collate_name_list.specs.Keys.{slots_with_keys}
use Rattle.collate_name_list.specs.declared.slots.Stored.{Stored}
use Rattle.collate_name_list.specs.declared.name_list.NameList.TheInside.{Inside}
use Rattle.collate_name_list.specs.Room.{numbers_from}
use Rattle.collate_name_list.proofs.KeptLemmas.{kept_same}
use Rattle.collate_name_list.proofs.RoomLemmas.{entries_are, entries_dense, kept_dense, numbers_within}
use Rattle.collate_name_list.proofs.RekeyLemmas.{kept_changed, length_full, names_changed, on_err_from}
use Rattle.collate_name_list.proofs.name_list.NameList.rekey.Goals as goal

pub renumber-requires : goal.renumber-requires
renumber-requires c =
    numbers_within key_order c.self.inside.slots.items c.self.inside.by_key c.as_slice-2.result.now c.self.invariant.by_key
    (c.as_slice-2.ensures.value ∙ c.in_ok-numbers.ensures ∙ ap (numbers_from 0) c.as_slice.ensures.value)

pub reorder-requires-clause-length : goal.reorder-requires-clause-length
reorder-requires-clause-length c =
    ap length c.drop_empty-2.ensures ∙ length_full c.self.inside.slots.items ∙ ap length (entries_are c.self.inside.slots.items ∙ c.self.view_is) ∙ sym c.requires

pub reorder-requires-clause-order : goal.reorder-requires-clause-order
reorder-requires-clause-order c =
    let dense : Inside = record { alloc = c.self.inside.alloc; slots = c.drop_empty-2.new.slots; by_key = c.renumber.new.self; hashes = c.drop_empty.new.self } in
    let kept : IsKept dense =
    kept_dense c.self.inside dense c.in_ok-numbers.numbers.items c.self.invariant (c.in_ok-numbers.ensures ∙ ap (numbers_from 0) c.as_slice.ensures.value) c.drop_empty-2.ensures
    (c.renumber.ensures ∙ ap (λ ns. renumbered ns c.self.inside.by_key) c.as_slice-2.ensures.value) c.drop_empty.ensures.hashes c.drop_empty.ensures.seed in
    kept.by_key

pub reorder-requires-clause-fronts : goal.reorder-requires-clause-fronts
reorder-requires-clause-fronts c =
    let dense : Inside = record { alloc = c.self.inside.alloc; slots = c.drop_empty-2.new.slots; by_key = c.renumber.new.self; hashes = c.drop_empty.new.self } in
    let kept : IsKept dense =
    kept_dense c.self.inside dense c.in_ok-numbers.numbers.items c.self.invariant (c.in_ok-numbers.ensures ∙ ap (numbers_from 0) c.as_slice.ensures.value) c.drop_empty-2.ensures
    (c.renumber.ensures ∙ ap (λ ns. renumbered ns c.self.inside.by_key) c.as_slice-2.ensures.value) c.drop_empty.ensures.hashes c.drop_empty.ensures.seed in
    kept.fronts

pub invariant_of-self : goal.invariant_of-self
invariant_of-self c =
    let dense : Inside = record { alloc = c.self.inside.alloc; slots = c.drop_empty-2.new.slots; by_key = c.renumber.new.self; hashes = c.drop_empty.new.self } in
    let kept : IsKept dense =
    kept_dense c.self.inside dense c.in_ok-numbers.numbers.items c.self.invariant (c.in_ok-numbers.ensures ∙ ap (numbers_from 0) c.as_slice.ensures.value) c.drop_empty-2.ensures
    (c.renumber.ensures ∙ ap (λ ns. renumbered ns c.self.inside.by_key) c.as_slice-2.ensures.value) c.drop_empty.ensures.hashes c.drop_empty.ensures.seed in
    kept_same dense (record { alloc = c.self.inside.alloc; slots = c.reorder.new.slots; by_key = c.renumber.new.self; hashes = c.drop_empty.new.self }) kept
    c.in_err-self-inside.ensures.unchanged refl refl refl

pub returns-in_err-self-inside-clause-unchanged : goal.returns-in_err-self-inside-clause-unchanged
returns-in_err-self-inside-clause-unchanged c =
    on_err_from c.from_residual-in_err-self-inside.result
    (ap entries c.in_err-self-inside.ensures.unchanged ∙ ap entries c.drop_empty-2.ensures ∙ entries_dense c.self.inside.slots.items ∙ c.self.view_is)

pub invariant_of-self-2 : goal.invariant_of-self-2
invariant_of-self-2 c =
    let dense : Inside = record { alloc = c.self.inside.alloc; slots = c.drop_empty-2.new.slots; by_key = c.renumber.new.self; hashes = c.drop_empty.new.self } in
    let kept : IsKept dense =
    kept_dense c.self.inside dense c.in_ok-numbers.numbers.items c.self.invariant (c.in_ok-numbers.ensures ∙ ap (numbers_from 0) c.as_slice.ensures.value) c.drop_empty-2.ensures
    (c.renumber.ensures ∙ ap (λ ns. renumbered ns c.self.inside.by_key) c.as_slice-2.ensures.value) c.drop_empty.ensures.hashes c.drop_empty.ensures.seed in
    kept_changed dense (record { alloc = c.self.inside.alloc; slots = c.reorder.new.slots; by_key = c.in_ok-self-inside.field-0; hashes = c.drop_empty.new.self })
    c.drop_empty-2.new.slots.items c.args.keys.items kept refl c.in_ok-self-inside.ensures.slots c.in_ok-self-inside.ensures.order c.in_ok-self-inside.ensures.fronts refl refl

pub returns-clause-rekeyed : goal.returns-clause-rekeyed
returns-clause-rekeyed c =
    let slots : List (Option Stored) = c.self.inside.slots.items in
    let keys = c.args.keys.items in
    let changed : c.reorder.new.slots.items ≡ slots_with_keys (filter is_some slots) keys = c.in_ok-self-inside.ensures.slots ∙ ap (λ ss. slots_with_keys ss keys) c.drop_empty-2.ensures in
    ap entries changed
    ∙ sym (entries_are (slots_with_keys (filter is_some slots) keys))
    ∙ names_changed slots keys
    ∙ ap (rekeyed keys) (entries_are slots ∙ c.self.view_is)
