use Rattle.std.proofs.Common.{◌∙◌, ap}
use Rattle.collate_lists.specs.Lists.{renumbered}
use Rattle.collate_name_list.specs.StoredNames.{key_order}
use Rattle.collate_name_list.specs.Slots.{entries}
use Rattle.collate_name_list.specs.Room.{numbers_from}
use Rattle.collate_name_list.proofs.RoomLemmas.{numbers_within, kept_dense, entries_dense}
use Rattle.collate_name_list.proofs.name_list.NameList.make_room.Goals as goal

pub renumber-requires : goal.renumber-requires
renumber-requires c =
    numbers_within key_order c.self.inside.slots.items c.self.inside.by_key c.as_slice-2.result.now c.self.invariant.by_key
    (c.as_slice-2.ensures.value ∙ c.in-Ok.ensures ∙ ap (numbers_from 0) c.as_slice.ensures.value)

pub invariant_of-self : goal.invariant_of-self
invariant_of-self c =
    kept_dense c.self.inside (record { alloc = c.self.inside.alloc; slots = c.drop_empty-2.new.slots; by_key = c.renumber.new.self; hashes = c.drop_empty.new.self }) c.in-Ok.numbers.items
    c.self.invariant (c.in-Ok.ensures ∙ ap (numbers_from 0) c.as_slice.ensures.value) c.drop_empty-2.ensures
    (c.renumber.ensures ∙ ap (λ ns. renumbered ns c.self.inside.by_key) c.as_slice-2.ensures.value)
    c.drop_empty.ensures.hashes c.drop_empty.ensures.seed

pub returns-in-Ok : goal.returns-in-Ok
returns-in-Ok c = ap entries c.drop_empty-2.ensures ∙ entries_dense c.self.inside.slots.items ∙ c.self.view_is
